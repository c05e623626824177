use mathlib.Core.Path.{◌≡◌, refl, sym, ◌∙◌, ap}
use Prim.Native.Nat.{ℕ, ◌*◌, ◌-◌, ◌<◌, ◌≤◌}
use native.Mathlib.Omega.{arith}
use lib.IntN.{pos}
use lib.ListN.{length, get_or, set}
use mir.Syntax.{w32, w64}
use mir.Val.{Fits, to_z, of_z}
use mir.Facts.{to_z-of_z}
use borrow.Author.Rules.{sfits_of, scaled_Fits}
use Rattle.clause_list.specs.ClauseList.{clauses_of}
use Rattle.literal.proofs.Signs.{back}
use Rattle.literal.specs.Words.{opposite_word, last_variable}
use Rattle.search_scan.proofs.Words.{place-of}
use Rattle.search_rules.specs.Held.{Stored}
use Rattle.search_rules.specs.Inner.{Fine}
use Rattle.search_index.specs.Index.{Watched}
use Rattle.search_core.specs.Inner.{SomeStored}
use Rattle.search_rules.specs.Rules.{State, word_of, byte_of, place_of}
use Rattle.search_core.proofs.Slices.{Went, Top, top_of, off-top, turn-top, turn_on, turned-word, went-none}
use Rattle.search_core.proofs.Slices.{size-values, size-trail}
use Rattle.search_core.proofs.Touches.{touches}
use Rattle.search_core.proofs.steps.back.Goals as goal
use Rattle.search_core.proofs.steps.back.Lts as lts
use Rattle.search_core.proofs.steps.back.Tie as tie
use Rattle.search_core.proofs.steps.back.Reads as reads

abbrev At-After-l : Type 0
At-After-l =
    lts.After-l tie.the-claims reads.Pre reads.Post goal.the-invariant-loop-n goal.the-decreases-loop-n
    tie.handed_clauses

abbrev At-After-place : Type 0
At-After-place =
    lts.After-place tie.the-claims reads.Pre reads.Post goal.the-invariant-loop-n goal.the-decreases-loop-n
    tie.handed_clauses

abbrev At-At-loop : Type 0
At-At-loop =
    lts.At-loop tie.the-claims reads.Pre reads.Post goal.the-invariant-loop-n goal.the-decreases-loop-n
    tie.handed_clauses

abbrev At-In-loop : Type 0
At-In-loop =
    lts.In-loop tie.the-claims reads.Pre reads.Post goal.the-invariant-loop-n goal.the-decreases-loop-n
    tie.handed_clauses

abbrev At-Start : Type 0
At-Start =
    lts.Start tie.the-claims reads.Pre reads.Post goal.the-invariant-loop-n goal.the-decreases-loop-n tie.handed_clauses

abbrev At-Then1 : Type 0
At-Then1 =
    lts.Then1 tie.the-claims reads.Pre reads.Post goal.the-invariant-loop-n goal.the-decreases-loop-n tie.handed_clauses

-- the slices at the call
module _ (c : At-Start) where
  abbrev v : ℕ
  v = length c.args.values.now

  abbrev Held : State → Type 0
  Held state = Stored v state c.args.values.now c.args.trail.now c.args.used

  held : SomeStored v c.args.values.now c.args.trail.now c.args.used
  held = c.requires.some_stored

  long : length c.args.trail.now ≡ v
  long = size-trail _ _ _ _ _ held.stored

-- in a turn of the loop
module _ (c : At-In-loop) where
  abbrev s : At-Start
  s = c.before.before.before.before.before

  abbrev went : (state : State) → Held s state → Went (v s) state c.loop-n.values c.loop-n.trail c.loop-n.n
  went = c.loop-n.invariant.0

  topped : (state : State) (i : Held s state) → Top (v s) (went state i).now_at c.loop-n.values c.loop-n.trail
      c.loop-n.n
  topped state i = top_of (v s) _ _ _ _ (went state i).stored c.loop-n-test.true

  abbrev top : Top (v s) (went (held s).state (held s).stored).now_at c.loop-n.values c.loop-n.trail c.loop-n.n
  top = topped (held s).state (held s).stored

  wide : length c.loop-n.values ≡ v s
  wide = size-values _ _ _ _ _ (went (held s).state (held s).stored).stored

  deep : length c.loop-n.trail ≡ v s
  deep = size-trail _ _ _ _ _ (went (held s).state (held s).stored).stored

  scaled : Fits w64 ((c.loop-n.n - 1) * 4)
  scaled = scaled_Fits _ (v s) _ top.below (rw (← long s) s.well_formed.1.1.0.1)

pub offset_bounds-trail-top : goal.offset_bounds-trail-top
offset_bounds-trail-top c = scaled c.before

pub slice_copy_out-l : goal.slice_copy_out-l
slice_copy_out-l c = omega (arith, (top c.before).below, deep c.before)

word-is : (c : At-After-l)
    → to_z w32 (of_z w32 (get_or c.loop-n.trail (c.loop-n.n - 1) (pos 0)))
    ≡ get_or c.loop-n.trail (c.loop-n.n - 1) (pos 0)
word-is c = back (get_or c.loop-n.trail (c.loop-n.n - 1) (pos 0)) (sfits_of c.l-1.given)

pub place-at-requires : goal.place-at-requires
place-at-requires c =
    let r = (top c.before.before).range in
    let k = (s c.before.before).requires.values_len_bound in
    rw (word-is c.before ∙ (top c.before.before).the_word) (r.0, (let h = r.1 in omega arith))

module _ (c : At-After-place) where
  at-is : (state : State) (i : Held (s c.before.before) state) → c.place-at.result
      ≡ place_of (word_of (topped c.before.before state i).e)
  at-is state i =
      c.place-at.ensures ∙ place-of _ ∙ ap place_of (word-is c.before ∙ (topped c.before.before state i).the_word)

  in-values : c.place-at.result < length c.loop-n.values
  in-values =
      let h = held (s c.before.before) in
      omega (arith, at-is h.state h.stored, (top c.before.before).here, wide c.before.before)

pub bounds-values-at : goal.bounds-values-at
bounds-values-at c = in-values c.before.before

pub bounds-values-at-then-was-eq3 : goal.bounds-values-at-then-was-eq3
bounds-values-at-then-was-eq3 c = in-values c.before.before.before

is-three : (c : At-Then1) (state : State) (i : Held (s c.before.before.before.before) state)
    → byte_of (topped c.before.before.before.before state i).e ≡ 3
is-three c state i =
    sym (topped c.before.before.before.before state i).the_byte
    ∙ (rw (at-is c.before.before state i) at c.if-was-eq3.true)

pub offset_bounds-trail-top-then-was-eq3 : goal.offset_bounds-trail-top-then-was-eq3
offset_bounds-trail-top-then-was-eq3 c = scaled c.before.before.before.before.before.before

pub bounds-trail-top : goal.bounds-trail-top
bounds-trail-top c = let q = c.before.before.before.before.before.before in omega (arith, (top q).below, deep q)

-- the value at the place, which was x, is changed
changed : (c : At-After-place) (b x : ℕ) → x ≡ get_or c.loop-n.values c.place-at.result 0
    → Fine (length (set c.loop-n.values c.place-at.result b)) (s c.before.before).args.list.now
    × ((length (set c.loop-n.values c.place-at.result b) ≤ last_variable)
    × ((c.place-at.result < length (set c.loop-n.values c.place-at.result b))
    × Watched (clauses_of (s c.before.before).args.list.now)
    (set (set c.loop-n.values c.place-at.result b) c.place-at.result x)
    (s c.before.before).args.chains.now c.loop-n.weights))
changed c b x e =
    let q = c.before.before in
    touches _ _ _ _ b x _ _ refl (in-values c) e (rw (wide q) (s q).requires.fine)
    (omega (arith, wide q, (s q).requires.values_len_bound)) q.loop-n.invariant.1

pub touch-requires : goal.touch-requires
touch-requires c =
    let t = changed c.before.before.before.before.before 1 3 (sym c.if-was-eq3.true) in
    record { fine = t.0; values_len_bound = t.1.0; p_in_bounds = t.1.1.0; watched = t.1.1.1 }

pub returns-then-was-eq3 : goal.returns-then-was-eq3
returns-then-was-eq3 c =
    let w = c.before.before.before.before.before.before in
    let q = w.before.before.before.before in record {
      turned = (λ state i.
          let t = topped q state i in
          let b = is-three w state i in
          let o : c.opposite.result ≡ opposite_word (word_of t.e) =
          c.opposite.ensures ∙ ap opposite_word (word-is w.before.before.before ∙ t.the_word)
          in
          rw (← (went q state i).alike, at-is w.before.before state i)
          (turn-top _ _ _ _ _ t _ b
          (to_z-of_z {w = w32} (record { sfits = c.opposite.type_inv }) ∙ o
          ∙ turned-word _ t.e (s q).requires.values_len_bound t.range b)));
      watched_2 = c.touch.ensures;
    }

pub bounds-values-at-in-loop-n : goal.bounds-values-at-in-loop-n
bounds-values-at-in-loop-n c = in-values c.before.before.before

pub offset_bounds-trail-top-in-loop-n : goal.offset_bounds-trail-top-in-loop-n
offset_bounds-trail-top-in-loop-n c = scaled c.before.before.before.before.before

pub slice_set_of-trail : goal.slice_set_of-trail
slice_set_of-trail c = let q = c.before.before.before.before.before in omega (arith, (top q).below, deep q)

pub touch-requires-in-loop-n : goal.touch-requires-in-loop-n
touch-requires-in-loop-n c =
    let t = changed c.before.before.before.before 2 _ refl in
    record { fine = t.0; values_len_bound = t.1.0; p_in_bounds = t.1.1.0; watched = t.1.1.1 }

pub loop-n-preserved : goal.loop-n-preserved
loop-n-preserved c =
    let w = c.before.before.before.before.before in
    let p = w.before.before.before.before in (
      (λ state i.
          let t = topped p state i in
          let q = at-is w.before.before state i in
          record {
            now_at = t.rest;
            stored = rw q (off-top _ _ _ _ _ t);
            alike = turn_on _ _ _ _ _ t (λ b. w.if-was-eq3.false (rw q (t.the_byte ∙ b))) ∙ (went p state i).alike;
          }),
      c.touch-in-loop-n.ensures,
      c.touch-in-loop-n.auto.weights ∙ p.loop-n.invariant.2,
    )

-- after the loop
ended : (c : At-At-loop) → Went (v c.before.before.before.before) (held c.before.before.before.before).state
    c.loop-n.values
    c.loop-n.trail c.loop-n.n
ended c = c.loop-n.invariant.0 (held c.before.before.before.before).state (held c.before.before.before.before).stored

pub shape_of-values : goal.shape_of-values
shape_of-values c = size-values _ _ _ _ _ (ended c.before.before).stored

pub shape_of-trail : goal.shape_of-trail
shape_of-trail c =
    size-trail _ _ _ _ _ (ended c.before.before).stored ∙ sym (long c.before.before.before.before.before.before)

pub returns : goal.returns
returns c = record {
  turned = (λ state i. went-none _ _ _ _ _ (c.loop-n.invariant.0 state i) c.loop-n-test.false);
  watched_2 = c.loop-n.invariant.1;
}
