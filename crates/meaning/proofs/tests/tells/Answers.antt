use Rattle.std.proofs.Common.{false, ◌&&◌, ◌||◌, eqb, get_or, sym, ap, ◌∙◌, ⊎_elim}
use Rattle.text.specs.declared.node.Node.TheVariants.{Always, Is, Both, Either, Not}
use Rattle.meaning.proofs.Telling.{tells, told_by}
use Rattle.meaning.proofs.tests.tells.Goals as goal

pub returns-in-Always : goal.returns-in-Always
returns-in-Always c = record { value = told_by _ _ _ _ c.requires.says Always c.in-Always.ensures.stands }

pub returns-in-Is : goal.returns-in-Is
returns-in-Is c = record { value = ap (λ v. eqb v c.in-Is.x) c.field.ensures.value ∙ told_by _ _ _ _ c.requires.says (Is c.in-Is.f c.in-Is.x) c.in-Is.ensures.stands }

pub returns-then-row-a : goal.returns-then-row-a
returns-then-row-a c =
    record { value = ap (λ v. v && get_or c.args.row.now c.in-Both.b false) (sym c.if-row-a.true) ∙ told_by _ _ _ _ c.requires.says (Both c.in-Both.a c.in-Both.b) c.in-Both.ensures.stands }

pub returns-else-row-a : goal.returns-else-row-a
returns-else-row-a c =
    record { value = c.if-row-a.false ∙ ap (λ v. v && get_or c.args.row.now c.in-Both.b false) (sym c.if-row-a.false) ∙ told_by _ _ _ _ c.requires.says (Both c.in-Both.a c.in-Both.b) c.in-Both.ensures.stands }

pub returns-then-row-a-2 : goal.returns-then-row-a-2
returns-then-row-a-2 c =
    record { value = c.if-row-a-2.true ∙ ap (λ v. v || get_or c.args.row.now c.in-Either.b false) (sym c.if-row-a-2.true) ∙ told_by _ _ _ _ c.requires.says (Either c.in-Either.a c.in-Either.b) c.in-Either.ensures.stands }

pub returns-else-row-a-2 : goal.returns-else-row-a-2
returns-else-row-a-2 c =
    record { value = ap (λ v. v || get_or c.args.row.now c.in-Either.b false) (sym c.if-row-a-2.false) ∙ told_by _ _ _ _ c.requires.says (Either c.in-Either.a c.in-Either.b) c.in-Either.ensures.stands }

pub returns-in-Not : goal.returns-in-Not
returns-in-Not c = record { value = told_by _ _ _ _ c.requires.says (Not c.in-Not.a) c.in-Not.ensures.stands }

pub returns-in-Keep : goal.returns-in-Keep
returns-in-Keep c =
    let f = tells c.args.row.now c.args.p.fields in
    let is = ⊎_elim (λ h. ap f h.1) (⊎_elim (λ h. ap f h.2) (⊎_elim (λ h. ap f h.2) (λ h. ap f h.2))) c.in-Keep.is in
    record { value = sym is ∙ told_by _ _ _ _ c.requires.says c.node_at.result c.node_at.ensures.stands }
