use Rattle.std.proofs.Common.{rules, Ok, Some, vec_items, ap, ◌∙◌, subst}
use Rattle.notation.specs.declared.marks.Mark.TheVariants.{Newline}
use Rattle.notation.specs.Marks.{parts}
use Rattle.script.specs.Described.{layout_of}
use Rattle.octets.specs.Faults.{number}
use Rattle.script.specs.Scripts.{Headed, Goes, Refused, sofar_of, line_in, describing, started_at}
use Rattle.script.proofs.Headed.{line_more, line_starts, line_stops, lines_end, none_yet, stopped, went_on, stopped_at, told_err}
use Rattle.std.proofs.lemmas.Result.{err_from_is_err_and}
use Rattle.script.specs.declared.header.draft.Went.TheVariants.{On, Begun}
use Rattle.script.proofs.header.reads.describe.Goals as goal

pub loop-line-preserved : goal.loop-line-preserved
loop-line-preserved c =
    let next = c.in-Some.ensures.cases in
    let s = sofar_of c.loop-line.draft in
    let t = sofar_of c.line.new.self in
    ap (λ k. describing k t (parts Newline c.next.new.self.left.now)) next.1
    ∙ line_more c.loop-line.lines.before s t _ _ _ next.2
    (went_on (λ r. Goes r c.line.new.self (line_in c.in-Some.line s c.in-Some.bytes.now)) c.line.result c.map_err.result _ On c.line.ensures.value c.map_err.ensures.cases (c.in_ok-map_err.was ∙ ap Ok c.in-On.is)
    ∙ ap (λ k. line_in k s c.in-Some.bytes.now) next.0)
    ∙ c.loop-line.invariant

pub returns-in-Begun : goal.returns-in-Begun
returns-in-Begun c =
    let next = c.in-Some.ensures.cases in
    let s = sofar_of c.loop-line.draft in
    let t = sofar_of c.line.new.self in
    record {
      value =
          subst (Headed c.begin.result)
          ((λ i. started_at t (next.0 i) (c.left.ensures.value i))
          ∙ line_starts c.loop-line.lines.before s t _ _ _ next.2
          (went_on (λ r. Goes r c.line.new.self (line_in c.in-Some.line s c.in-Some.bytes.now)) c.line.result c.map_err.result _ Begun c.line.ensures.value c.map_err.ensures.cases (c.in_ok-map_err.was ∙ ap Ok c.in-Begun.is)
          ∙ ap (λ k. line_in k s c.in-Some.bytes.now) next.0)
          ∙ c.loop-line.invariant ∙ none_yet _ (layout_of c.args.description) (vec_items c.new.result) _ c.new.ensures.items)
          c.begin.ensures.value;
    }

pub returns-in_err-map_err : goal.returns-in_err-map_err
returns-in_err-map_err c =
    let next = c.in-Some.ensures.cases in
    let s = sofar_of c.loop-line.draft in
    let why = stopped_at (λ r. Goes r c.line.new.self (line_in c.in-Some.line s c.in-Some.bytes.now)) c.line.result c.map_err.result c.in-Some.line _ c.in_err-map_err.field-0.0 c.line.ensures.value c.map_err.ensures.cases (λ f z p. search rules) c.in_err-map_err.was in
    let p = err_from_is_err_and c.from_residual.result c.from_residual.ensures.1 in
    record {
      value =
          told_err c.from_residual.result p.0 c.in_err-map_err.field-0.0 _ p.1 p.2
          (stopped c.in_err-map_err.field-0.0 why.0 c.in-Some.line (line_in c.in-Some.line s c.in-Some.bytes.now) _ why.2 why.1
          (λ e.
          ap (λ k. Refused (number why.0) (Some k)) next.0
          ∙ line_stops c.loop-line.lines.before s _ _ _ _ next.2 (e ∙ ap (λ k. line_in k s c.in-Some.bytes.now) next.0)
          ∙ c.loop-line.invariant ∙ none_yet _ (layout_of c.args.description) (vec_items c.new.result) _ c.new.ensures.items));
    }

pub returns : goal.returns
returns c =
    record {
      value =
          lines_end c.loop-line.lines.before (sofar_of c.loop-line.draft) _ c.in_default.ensures.cases
          ∙ c.loop-line.invariant ∙ none_yet _ (layout_of c.args.description) (vec_items c.new.result) _ c.new.ensures.items;
    }
