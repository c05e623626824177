-- The loop of calls: those made so far, with any calls that take up what they left, are a chain from the start.
use mathlib.Core.Path.{◌≡◌, refl, sym, ◌∙◌, ap, subst}
use mathlib.Core.List.{List}
use Prim.Native.Nat.{ℕ, ◌+◌, ◌*◌, ◌-◌, ◌≤◌, ◌<◌}
use native.Mathlib.Omega.{arith}
use lib.IntN.{ℤ}
use lib.ListN.{length}
use Rattle.search_rules.specs.declared.Steps.{Steps}
use Rattle.search_rules.specs.declared.Position.{Position}
use Rattle.search.specs.Answers.{Answer, spent}
use Rattle.search.specs.Resumed.{Resumption, left, resumption}
use Rattle.search.specs.Resuming.{start, Chain, last, spends}
use Rattle.search.proofs.Resuming.{none_done, same_as_one}
use Rattle.onward.specs.Limits.{most_steps}
use Rattle.search.proofs.MoreSteps.{Unspent, more-steps}

-- the calls that are made at most, and the steps of each
abbrev pub most-calls : ℕ
most-calls = 18446744073709

abbrev per-call : ℕ
per-call = 1000000

-- the steps allowed so far, where so many calls are left
abbrev so_far : ℕ → ℕ
so_far calls = (most-calls - calls) * per-call

-- where the calls stand
pub record Loop (list : List ℤ) (v : ℕ) (values₀ : List ℕ) (trail₀ : List ℤ) (values : List ℕ) (trail : List ℤ) (p : Position) (calls : ℕ)
    : Type 0 where
  pub wide : length values ≡ length values₀
  pub deep : length trail ≡ length trail₀
  pub few : calls ≤ most-calls
  pub chain : (n : ℕ) (r : Resumption) → Chain (resumption list v) values trail p n r
      → Chain (resumption list v) values₀ trail₀ start (so_far calls + n) r

module _ (list : List ℤ) (v : ℕ) (values₀ : List ℕ) (trail₀ : List ℤ) where
  abbrev From : Resumption → ℕ → Type 0
  From r n = Chain (resumption list v) values₀ trail₀ start n r

  pub begins : Loop list v values₀ trail₀ values₀ trail₀ start most-calls
  begins = record {
    wide = refl;
    deep = refl;
    few = omega arith;
    chain = λ n r c. let e : n ≡ 0 + n = omega arith in subst (From r) e c;
  }

  -- a chain of all the steps at most
  one-call : (n : ℕ) (r : Resumption) → n ≤ most_steps → From r n → r ≡ resumption list v values₀ trail₀ start n
  one-call n r few c = same_as_one list v values₀ trail₀ start n r c (none_done n (omega arith))

  module _ (values : List ℕ) (trail : List ℤ) (p : Position) (calls : ℕ) (l : Loop list v values₀ trail₀ values trail p calls) where
    -- no call is left: a call with no steps says where the search stands
    pub at-end : calls ≤ 0 → (r : Resumption) → r ≡ resumption list v values trail p 0 → r ≡ resumption list v values₀ trail₀ start most_steps
    at-end h r call =
        let e : so_far calls + 0 ≡ most_steps = omega arith in
        call ∙ one-call most_steps _ (omega arith) (subst (From _) e (l.chain 0 _ (last 0)))

    -- one call more
    module _ (some : 0 < calls) (a : Answer) (vs : List ℕ) (ts : List ℤ) (q : Position)
        (call : left a vs ts q ≡ resumption list v values trail p per-call) where
      -- it is not spent
      pub ended : Unspent a → left a vs ts q ≡ resumption list v values₀ trail₀ start most_steps
      ended h =
          let m = so_far calls + per-call in
          let n = (calls - 1) * per-call in
          let e : m + n ≡ most_steps = omega (arith, l.few) in
          let d = call ∙ one-call m _ (omega (arith, l.few)) (l.chain per-call _ (last per-call)) in
          d
          ∙ sym (more-steps list v values₀ trail₀ start m n (none_done (m + n) (omega (arith, e)))
          λ steps f. h steps (ap (λ r. r.outcome.answer) d ∙ f))
          ∙ ap (resumption list v values₀ trail₀ start) e

      -- it is spent
      pub goes_on : (steps : Steps) → a ≡ spent steps → length vs ≡ length values → length ts ≡ length trail
          → Loop list v values₀ trail₀ vs ts q (calls - 1)
      goes_on steps e wide deep = record {
        wide = wide ∙ l.wide;
        deep = deep ∙ l.deep;
        few = omega (arith, l.few);
        chain = λ n r c.
            let d : so_far calls + (per-call + n) ≡ so_far (calls - 1) + n = omega (arith, l.few) in
            let f = sym (ap (λ x. x.outcome.answer) call) ∙ e in
            let g = subst (λ (x : Resumption). Chain (resumption list v) x.outcome.values x.outcome.trail x.position n r) call c in
            subst (From r) d (l.chain (per-call + n) r (spends per-call f g));
      }
