-- One line more, a fault on it, and the end of the bytes.
use Rattle.std.proofs.Common.{◌≡◌, ◌+◌, ℕ, List, false, replicate, rules, [], length, Some, sym, ap, ◌∙◌, inl, arith}
use Rattle.octets.specs.Faults.{number}
use Rattle.text.specs.declared.texts.Draft.{Draft}
use Rattle.text.specs.Texts.{drafted}
use Rattle.notation.specs.declared.used.Used.{Used}
use Rattle.notation.specs.declared.marks.Mark.TheVariants.{Newline}
use Rattle.notation.specs.Marks.{parts}
use Rattle.notation.specs.Parts.{parts_left}
use Rattle.notation.specs.Notation.{Refused, lines_in, text_in}
use Rattle.notation.specs.Readers.{sofar, grown, outcome}
use Rattle.notation.specs.Reading.{Bad, Read}
use Rattle.std.proofs.lemmas.Result.{err_from_is_err_and}
use Rattle.notation.specs.Notation.{line_in}
use Rattle.notation.proofs.Cuts.{parts_few}
use Rattle.notation.proofs.Turns.{lines_more, lines_stop, lines_end, finished_by}
use Rattle.notation.proofs.reader.lines.read.Goals as goal

-- what the loop began with
begun : (d : Draft) (u : Used) (bs : List ℕ) → u.flags ≡ replicate 512 false → lines_in 0 (sofar (record { draft = d; used = u })) (parts Newline bs) ≡ text_in (drafted d) bs
begun d u bs e = ap (λ v. lines_in 0 (record { nodes = drafted d; used = v }) (parts Newline bs)) e

pub loop-place-init : goal.loop-place-init
loop-place-init c = search rules

-- there are no more lines than bytes, so they can be counted
pub loop-place-init-derived : goal.loop-place-init-derived
loop-place-init-derived c =
    let start : c.into_iter-place-iterator.result.count ≡ 0 = search rules in
    let all : parts_left c.into_iter-place-iterator.result.iter ≡ parts Newline c.args.bytes.now = search rules in
    ((tt, tt, inl (omega (arith, start, ap length all, parts_few Newline c.args.bytes.now))), tt)

pub returns-in_err-map_err : goal.returns-in_err-map_err
returns-in_err-map_err c =
    let step = c.in-Some.ensures.steps in
    let refusal = c.in_err-map_err.field-0.0 in
    let line : refusal.line ≡ Some (c.in-Some.place + 1) = search rules in
    let fault : grown c.line.result c.line.new.self ≡ Bad (number refusal.fault) = search rules in
    let p = err_from_is_err_and c.from_residual.result c.from_residual.ensures.1 in
    record {
      value =
          ap outcome p.1 ∙ ap (λ r. Refused (number r.fault) r.line) p.2 ∙ ap (Refused (number refusal.fault)) (line ∙ ap (λ k. Some (k + 1)) step.1)
          ∙ lines_stop _ (sofar c.loop-place.reader) _ _ _ _ step.0 (sym fault ∙ c.line.ensures.value)
          ∙ c.loop-place.invariant ∙ begun c.args.draft c.none.result c.args.bytes.now c.none.ensures.value;
    }

pub loop-place-preserved : goal.loop-place-preserved
loop-place-preserved c =
    let step = c.in-Some.ensures.steps in
    let read : Read (sofar c.line.new.self) [] ≡ line_in (sofar c.loop-place.reader) c.in-Some.line.now = search rules in
    ap (λ k. lines_in k (sofar c.line.new.self) (parts_left c.next.new.self.iter)) step.2
    ∙ lines_more _ (sofar c.loop-place.reader) _ _ _ _ step.0 read ∙ c.loop-place.invariant

pub returns : goal.returns
returns c =
    let none = c.in-None.ensures.steps in
    record {
      value =
          finished_by _ _ _ _ c.ok_or.ensures.value c.finish.ensures.cases c.from.ensures.0 c.from.ensures.1
          ∙ lines_end _ (sofar c.loop-place.reader) _ none.0.0
          ∙ c.loop-place.invariant ∙ begun c.args.draft c.none.result c.args.bytes.now c.none.ensures.value;
    }
