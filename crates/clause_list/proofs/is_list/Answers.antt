-- `clause_list::is_list` meets its contract: each way out of the loop, by the clause in front.
use Rattle.std.proofs.Common.{refl, List, [], ◌∷◌, rules, ◌≡◌, sym, ap, ◌∙◌, arith, length}
use Rattle.clause_list.proofs.Laws.{well_cut_words, well-cut-nil, cut-low, cut-past, cut-clause, no-variable, many-variables, many-words, list-cut}
use lib.IntN.{ℤ}
use Rattle.prelude.specs.Tests.{all}
use Rattle.prelude.proofs.Laws.{and-not-left, and-rest}
use Rattle.literal.specs.Literals.{is_literal}
use Rattle.literal.specs.Words.{count_of}
use Rattle.literal.proofs.Signs.{read}
use Rattle.clause_list.proofs.is_list.Goals as goal
use Rattle.clause_list.proofs.is_list.Goals.{then-v-lt1-via-then-v-lt1, then-v-lt1-via-else-v-lt1+then-v-gt-MOST_VARIABLES, then-v-lt1-via-else-v-lt1+else-v-gt-MOST_VARIABLES+then-list-gt-MOST_WORDS}

pub returns-then-v-lt1 : goal.returns-then-v-lt1
returns-then-v-lt1 c =
    let v = c.args.v in
    let list = c.args.list.now in
    elim c.then-v-lt1.branch [
      | then-v-lt1-via-then-v-lt1 w ↦ sym (no-variable v list w.if-v-lt1.true)
      | then-v-lt1-via-else-v-lt1+then-v-gt-MOST_VARIABLES w ↦ sym (many-variables v list w.if-v-gt-MOST_VARIABLES.true)
      | then-v-lt1-via-else-v-lt1+else-v-gt-MOST_VARIABLES+then-list-gt-MOST_WORDS w ↦ sym (many-words v list w.if-list-gt-MOST_WORDS.true)
    ]

pub returns-then-count-lt1 : goal.returns-then-count-lt1
returns-then-count-lt1 c =
    let e : read c.in-Some.head.now ≡ c.in-Some.head.now = search rules in
    sym (list-cut c.args.v c.args.list.now (omega arith) (omega arith) (omega arith)
    ∙ c.loop-head.invariant
    ∙ cut-low c.args.v c.in-Some.ensures.cases.0 (c.count-count.ensures ∙ ap count_of e) c.if-count-lt1.true)

pub returns-in_default-split_at_checked : goal.returns-in_default-split_at_checked
returns-in_default-split_at_checked c =
    let e : read c.in-Some.head.now ≡ c.in-Some.head.now = search rules in
    sym (list-cut c.args.v c.args.list.now (omega arith) (omega arith) (omega arith)
    ∙ c.loop-head.invariant
    ∙ cut-past c.args.v c.in-Some.ensures.cases.0 (c.count-count.ensures ∙ ap count_of e) c.in_default-split_at_checked.ensures.cases)

pub returns-then-not-are_literals : goal.returns-then-not-are_literals
returns-then-not-are_literals c =
    let e : read c.in-Some.head.now ≡ c.in-Some.head.now = search rules in
    let s = c.in-Some-split_at_checked.ensures.cases in
    sym (list-cut c.args.v c.args.list.now (omega arith) (omega arith) (omega arith)
    ∙ c.loop-head.invariant
    ∙ cut-clause c.args.v c.in-Some.ensures.cases.0 (c.count-count.ensures ∙ ap count_of e) c.if-count-lt1.false s.0
    ∙ and-not-left _ _ (ap (all (is_literal c.args.v)) (sym s.1) ∙ sym c.are_literals.ensures ∙ c.if-not-are_literals.true))

pub loop-head-preserved : goal.loop-head-preserved
loop-head-preserved c =
    let e : read c.in-Some.head.now ≡ c.in-Some.head.now = search rules in
    let s = c.in-Some-split_at_checked.ensures.cases in
    c.loop-head.invariant
    ∙ cut-clause c.args.v c.in-Some.ensures.cases.0 (c.count-count.ensures ∙ ap count_of e) c.if-count-lt1.false s.0
    ∙ and-rest _ _ (ap (all (is_literal c.args.v)) (sym s.1) ∙ sym c.are_literals.ensures ∙ c.if-not-are_literals.false)
    ∙ ap (well_cut_words c.args.v) (sym s.2)

pub returns : goal.returns
returns c =
    sym (list-cut c.args.v c.args.list.now (omega arith) (omega arith) (omega arith)
    ∙ c.loop-head.invariant
    ∙ ap (well_cut_words c.args.v) (nothing c.loop-head.rest.now c.in_default.ensures.cases)
    ∙ well-cut-nil c.args.v)
  where
    nothing : (ws : List ℤ) → length ws ≡ 0 → ws ≡ []
    nothing [] h = refl
    nothing (w ∷ ws) h = absurd (omega arith)
