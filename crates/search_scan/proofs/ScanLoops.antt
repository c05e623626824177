-- The two loops of `scan`: how far they have come in the one pass.
use mathlib.Core.Path.{◌≡◌, refl, sym, ◌∙◌, ap}
use mathlib.Core.Bool.{Bool, true, false, cond}
use mathlib.Core.Logic.{◌⊎◌, inl, inr, ⊎_elim}
use mathlib.Core.List.{List, [], ◌∷◌}
use Prim.Native.Nat.{ℕ, zero, suc, ◌+◌, ◌-◌, ◌<◌, ◌≤◌}
use native.Mathlib.Omega.{arith}
use native.Mathlib.Nat.{zero-add, suc-add}
use native.Mathlib.Numerals.{add-one}
use lib.IntN.{ℤ, pos, negsuc, nat_abs}
use lib.ListN.{length, get_or, take, drop, length-drop, drop_of_length-le}
use lib.Seq.{drop-cons, drop-drop, slice, slice-cons, slice_empty, take-nil}
use mir.Syntax.{w32}
use mir.Val.{Fits, SFits, to_z, of_z}
use mir.Facts.{to_z-of_z, of_z-to_z, to_z_inj}
use Rattle.literal.specs.Words.{count_of}
use Rattle.clause_list.specs.ClauseList.{cut, clauses_of}
use Rattle.search_rules.specs.Held.{InRange}
use Rattle.search_rules.specs.Inner.{AllIn, FineIn, Fine}
use Rattle.search_scan.specs.Seen.{truth_code, Sight, conflicting, unit, neither, seen}
use Rattle.search_rules.specs.Rules.{Truth, falsified, satisfied, unassigned, literal, same_literal}
use Rattle.search_rules.proofs.Booleans.{bool_false}
use Rattle.search_rules.proofs.Assignments.{same_true, same_refl}
use Rattle.search_scan.proofs.Scans.{Clause, all_false, sole, several, is_held, meet, look, keep, pass, pass-seen}

-- what the bits of a word say of it
pub word-zero : (b : ℕ) → b ≡ 0 → to_z w32 b ≡ pos 0
word-zero b e = ap (to_z w32) e

pub word-some : (b : ℕ) → Fits w32 b → (b ≡ 0 → ⊥) → to_z w32 b ≡ pos 0 → ⊥
word-some b f h e = h (to_z_inj f (record { fits = omega arith }) e)

pub word-same : (b : ℕ) (l : ℤ) → SFits w32 l → b ≡ of_z w32 l → to_z w32 b ≡ l
word-same b l f e = ap (to_z w32) e ∙ to_z-of_z f

pub word-other : (b : ℕ) (l : ℤ) → Fits w32 b → (b ≡ of_z w32 l → ⊥) → to_z w32 b ≡ l → ⊥
word-other b l f h e = h (sym (of_z-to_z f) ∙ ap (of_z w32) e)

pub look-false : (vs : List ℕ) (s : Clause) (l : ℤ) (ls : List ℤ) → literal vs l ≡ falsified → look vs s (l ∷ ls) ≡ look vs s ls
unfolding look
look-false vs s l ls d = rw (d, look)

pub look-true : (vs : List ℕ) (s : Clause) (l : ℤ) (ls : List ℤ) → literal vs l ≡ satisfied → look vs s (l ∷ ls) ≡ is_held
unfolding look
look-true vs s l ls d = rw (d, look)

pub look-open : (vs : List ℕ) (s : Clause) (l : ℤ) (ls : List ℤ) → literal vs l ≡ unassigned → look vs s (l ∷ ls) ≡ look vs (meet s l) ls
unfolding look
look-open vs s l ls d = rw (d, look)

abbrev pub Truths : Truth → Type 0
Truths t = (t ≡ falsified) ⊎ (t ≡ satisfied) ⊎ (t ≡ unassigned)

pub truths : (t : Truth) → Truths t
truths falsified = inl refl
truths satisfied = inr (inl refl)
truths unassigned = inr (inr refl)

pub meet-not-false : (s : Clause) (l : ℤ) → meet s l ≡ all_false → ⊥
unfolding meet
meet-not-false all_false l e = let z : ◌≡◌ {A = ℕ} 0 1 = cc in omega arith
meet-not-false (sole k) l e = by (same_literal k l) e
  where
    by : (b : Bool) → cond b (sole k) several ≡ all_false → ⊥
    by true e = let z : ◌≡◌ {A = ℕ} 0 1 = cc in omega arith
    by false e = let z : ◌≡◌ {A = ℕ} 0 1 = cc in omega arith
meet-not-false several l e = let z : ◌≡◌ {A = ℕ} 0 1 = cc in omega arith
meet-not-false is_held l e = let z : ◌≡◌ {A = ℕ} 0 1 = cc in omega arith

pub pass-conflict : (vs : List ℕ) (s : Sight) (c : List ℤ) (cs : List (List ℤ)) → look vs all_false c ≡ all_false → pass vs s (c ∷ cs) ≡ conflicting
unfolding pass
pass-conflict vs s c cs d = rw (d, pass)

pub pass-unit : (vs : List ℕ) (s : Sight) (c : List ℤ) (cs : List (List ℤ)) (k : ℤ) → look vs all_false c ≡ sole k → pass vs s (c ∷ cs)
    ≡ pass vs (keep s k) cs
unfolding pass
pass-unit vs s c cs k d = rw (d, pass)

pub pass-several : (vs : List ℕ) (s : Sight) (c : List ℤ) (cs : List (List ℤ)) → look vs all_false c ≡ several → pass vs s (c ∷ cs) ≡ pass vs s cs
unfolding pass
pass-several vs s c cs d = rw (d, pass)

pub pass-held : (vs : List ℕ) (s : Sight) (c : List ℤ) (cs : List (List ℤ)) → look vs all_false c ≡ is_held → pass vs s (c ∷ cs) ≡ pass vs s cs
unfolding pass
pass-held vs s c cs d = rw (d, pass)

-- a literal as a local holds it: no literal is 0
pub record Bits (k o : ℤ) : Type 0 where
  pub bits : o ≡ k
  pub some : o ≡ pos 0 → ⊥

-- what the local `open` says
abbrev pub Found : Clause → ℤ → Type 0
Found all_false o = o ≡ pos 0
Found (sole k) o = Bits k o
Found several o = ⊥
Found is_held o = ⊥

-- what the local `unit` says
abbrev pub Kept : Sight → ℤ → Type 0
Kept conflicting u = ⊥
Kept (unit k) u = Bits k u
Kept neither u = u ≡ pos 0

-- the outer loop at the clause head `at`
pub record Outer (ws : List ℤ) (vs : List ℕ) (at : ℕ) (u : ℤ) : Type 0 where
  pub within : at ≤ length ws
  pub fuel : ℕ
  pub fine : FineIn (length vs) fuel (drop at ws)
  pub so : Sight
  pub kept : Kept so u
  pub same : pass vs so (cut fuel (drop at ws)) ≡ seen vs (clauses_of ws)

-- the inner loop at `i` of the clause from `i₀` to `at`
pub record Inner (ws : List ℤ) (vs : List ℕ) (i₀ at i : ℕ) (o u : ℤ) : Type 0 where
  pub within : i ≤ at
  pub fine : AllIn (length vs) (slice i at ws)
  pub once : (u ≡ pos 0 → ⊥) → o ≡ pos 0
  pub so : Clause
  pub seen : Found so o
  pub same : look vs so (slice i at ws) ≡ look vs all_false (slice i₀ at ws)

end-cut : (vs : List ℕ) (f : ℕ) (s : Sight) → s ≡ pass vs s (cut f [])
unfolding pass cut
end-cut vs zero s = refl
end-cut vs (suc f) s = refl

-- a clause's head
pub record Head (ws : List ℤ) (vs : List ℕ) (at : ℕ) (u : ℤ) (n : ℕ) : Type 0 where
  pub head : get_or ws at (pos 0) ≡ pos n
  pub within : at + 1 + n ≤ length ws
  pub all : AllIn (length vs) (slice (at + 1) (at + 1 + n) ws)
  pub fuel : ℕ
  pub fine : FineIn (length vs) fuel (drop (at + 1 + n) ws)
  pub so : Sight
  pub kept : Kept so u
  pub same : pass vs so (slice (at + 1) (at + 1 + n) ws ∷ cut fuel (drop (at + 1 + n) ws)) ≡ seen vs (clauses_of ws)

drop-take : (f n : ℕ) (l : List ℤ) → drop f (take (f + n) l) ≡ take n (drop f l)
drop-take zero n l = rw (zero-add n)
drop-take (suc f) n [] = rw (suc-add f n) (sym (take-nil n))
drop-take (suc f) n (x ∷ l) = rw (suc-add f n) (drop-take f n l)

pub start : (ws : List ℤ) (vs : List ℕ) → Fine (length vs) ws → Outer ws vs 0 (pos 0)
unfolding Fine
start ws vs h = record { within = omega arith; fuel = length ws; fine = h; so = neither; kept = refl; same = pass-seen vs (clauses_of ws) }

module _ (ws : List ℤ) (vs : List ℕ) (at : ℕ) (u : ℤ) where
  by-fuel : (w : ℤ) (rest : List ℤ) → at < length ws → w ≡ get_or ws at (pos 0) → rest ≡ drop (at + 1) ws → (s : Sight) → Kept s u
      → (f : ℕ) → FineIn (length vs) f (w ∷ rest) → pass vs s (cut f (w ∷ rest)) ≡ seen vs (clauses_of ws)
      → Head ws vs at u (nat_abs w)
  unfolding FineIn cut
  by-fuel w rest b e d s k zero h g = let z : ◌≡◌ {A = ℕ} 0 1 = cc in absurd (omega arith)
  by-fuel w rest b e d s k (suc f) h g =
      let n : ℕ = nat_abs w in
      let p : slice (at + 1) (at + 1 + n) ws ≡ take n rest = drop-take (at + 1) n ws ∙ ap (take n) (sym d) in
      let q : drop n rest ≡ drop (at + 1 + n) ws = ap (drop n) d ∙ drop-drop n (at + 1) ws in
      let r : length rest ≡ length ws - (at + 1) = ap length d ∙ length-drop (at + 1) ws in
      record {
        head = sym e ∙ h.0;
        within = let m : n ≤ length rest = h.1 in omega arith;
        all = rw p h.2;
        fuel = f;
        fine = rw q at h.3;
        so = s;
        kept = k;
        same = rw p (rw q at g);
      }

  pub head_of : Outer ws vs at u → at < length ws → Head ws vs at u (nat_abs (get_or ws at (pos 0)))
  head_of o b =
      let e : drop at ws ≡ get_or ws at (pos 0) ∷ drop (at + 1) ws = rw (add-one, drop-cons ws at (pos 0)) in
      by-fuel _ _ b refl refl o.so o.kept o.fuel (rw e at o.fine) (rw e at o.same)

eq_z-ne : (k l : ℤ) → (k ≡ l → ⊥) → same_literal k l ≡ false
eq_z-ne k l h = bool_false (same_literal k l) (λ e. h (same_true k l e))

-- an open literal `l`, where the locals say `o`
module _ (v : ℕ) (l : ℤ) (r : InRange v l) where
  of-l : Bits l l
  of-l = record { bits = refl; some = λ e. let h = r.0 in let z : nat_abs l ≡ 0 = ap nat_abs e in omega arith }

  pub meets-first : (s : Clause) (o : ℤ) → Found s o → o ≡ pos 0 → Found (meet s l) l
  unfolding meet
  meets-first all_false o h e = of-l
  meets-first (sole k) o h e = absurd (h.some e)
  meets-first several o h e = absurd h
  meets-first is_held o h e = absurd h

  pub meets-other : (s : Clause) (o : ℤ) → Found s o → (o ≡ pos 0 → ⊥) → (o ≡ l → ⊥) → meet s l ≡ several
  unfolding meet
  meets-other all_false o h p q = absurd (p h)
  meets-other (sole k) o h p q = rw (eq_z-ne k l (λ e. q (h.bits ∙ e)))
  meets-other several o h p q = refl
  meets-other is_held o h p q = absurd h

  pub meets-same : (s : Clause) (o : ℤ) → Found s o → (o ≡ pos 0 → ⊥) → o ≡ l → Found (meet s l) o
  unfolding meet
  meets-same all_false o h p q = absurd (p h)
  meets-same (sole k) o h p q = rw (same_refl k l (sym h.bits ∙ q)) h
  meets-same several o h p q = absurd h
  meets-same is_held o h p q = absurd h

-- different open literals, or a true one
abbrev Skips : Clause → Type 0
Skips s = (s ≡ several) ⊎ (s ≡ is_held)

several-step : (vs : List ℕ) (l : ℤ) (ls : List ℤ) → Skips (look vs several ls) → Truths (literal vs l) → Skips (look vs several (l ∷ ls))
unfolding meet
several-step vs l ls h (inl d) = rw (look-false vs several l ls d) h
several-step vs l ls h (inr (inl d)) = inr (look-true vs several l ls d)
several-step vs l ls h (inr (inr d)) = rw (look-open vs several l ls d) h

stays-several : (vs : List ℕ) (ls : List ℤ) → Skips (look vs several ls)
unfolding look
stays-several vs [] = inl refl
stays-several vs (l ∷ ls) = several-step vs l ls (stays-several vs ls) (truths (literal vs l))

open_step : (vs : List ℕ) (s : Clause) (l : ℤ) (ls : List ℤ) → (s ≡ all_false → ⊥) → (look vs s ls ≡ all_false → ⊥)
    → (look vs (meet s l) ls ≡ all_false → ⊥) → Truths (literal vs l) → look vs s (l ∷ ls) ≡ all_false → ⊥
open_step vs s l ls n p q (inl d) e = p (sym (look-false vs s l ls d) ∙ e)
open_step vs s l ls n p q (inr (inl d)) e = let w : is_held ≡ all_false = sym (look-true vs s l ls d) ∙ e in let z : ◌≡◌ {A = ℕ} 0 1 = cc in omega arith
open_step vs s l ls n p q (inr (inr d)) e = q (sym (look-open vs s l ls d) ∙ e)

-- where something is open, it is no conflict
stays_open : (vs : List ℕ) (s : Clause) (ls : List ℤ) → (s ≡ all_false → ⊥) → look vs s ls ≡ all_false → ⊥
unfolding look
stays_open vs s [] n e = n e
stays_open vs s (l ∷ ls) n e = open_step vs s l ls n (stays_open vs s ls n) (stays_open vs (meet s l) ls (meet-not-false s l))
    (truths (literal vs l)) e

module _ (ws : List ℤ) (vs : List ℕ) (i₀ at i : ℕ) (b : at ≤ length ws) (h : i < at) where
  cons : slice i at ws ≡ get_or ws i (pos 0) ∷ slice (i + 1) at ws
  cons = rw (add-one, slice-cons i at ws (pos 0))

  head_in : (l : ℤ) (ls : List ℤ) → AllIn (length vs) (l ∷ ls) → InRange (length vs) l × AllIn (length vs) ls
  unfolding AllIn
  head_in l ls h = h

  module _ (o u : ℤ) (n : Inner ws vs i₀ at i o u) where
    pub literal-in : InRange (length vs) (get_or ws i (pos 0))
    literal-in = (head_in _ _ (rw cons at n.fine)).0

    pub is_true_lem : literal vs (get_or ws i (pos 0)) ≡ satisfied → look vs all_false (slice i₀ at ws) ≡ is_held
    is_true_lem e = sym n.same ∙ rw cons (look-true vs n.so _ _ e)

    rest : literal vs (get_or ws i (pos 0)) ≡ unassigned → look vs (meet n.so (get_or ws i (pos 0))) (slice (i + 1) at ws)
        ≡ look vs all_false (slice i₀ at ws)
    rest e = sym (look-open vs n.so _ _ e) ∙ (rw cons at n.same)

    pub is_false : literal vs (get_or ws i (pos 0)) ≡ falsified → Inner ws vs i₀ at (i + 1) o u
    is_false e = record {
      within = omega arith;
      fine = (head_in _ _ (rw cons at n.fine)).1;
      once = n.once;
      so = n.so;
      seen = n.seen;
      same = sym (look-false vs n.so _ _ e) ∙ (rw cons at n.same);
    }

    pub is_open : (o' : ℤ) → u ≡ pos 0 → literal vs (get_or ws i (pos 0)) ≡ unassigned → Found (meet n.so (get_or ws i (pos 0))) o'
        → Inner ws vs i₀ at (i + 1) o' u
    is_open o' z e s = record {
      within = omega arith;
      fine = (head_in _ _ (rw cons at n.fine)).1;
      once = λ h. absurd (h z);
      so = meet n.so (get_or ws i (pos 0));
      seen = s;
      same = rest e;
    }

    pub is-several : literal vs (get_or ws i (pos 0)) ≡ unassigned → meet n.so (get_or ws i (pos 0)) ≡ several
        → Skips (look vs all_false (slice i₀ at ws))
    is-several e d = rw (← rest e, d) (stays-several vs (slice (i + 1) at ws))

    pub not-conflict : literal vs (get_or ws i (pos 0)) ≡ unassigned → look vs all_false (slice i₀ at ws) ≡ all_false → ⊥
    not-conflict e = rw (← rest e) (stays_open vs _ (slice (i + 1) at ws) (meet-not-false n.so (get_or ws i (pos 0))))

pub enter : (ws : List ℤ) (vs : List ℕ) (at : ℕ) (u : ℤ) (n : ℕ) → Head ws vs at u n
    → Inner ws vs (at + 1) (at + 1 + n) (at + 1) (pos 0) u
enter ws vs at u n h = record { within = omega arith; fine = h.all; once = λ z. refl; so = all_false; seen = refl; same = refl }

-- the loop over a clause is done
pub done : (ws : List ℤ) (vs : List ℕ) (i₀ at i : ℕ) (o u : ℤ) → at ≤ i → Inner ws vs i₀ at i o u
    → (s : Clause) × (look vs all_false (slice i₀ at ws) ≡ s) × Found s o
unfolding look
done ws vs i₀ at i o u h n =
    let e : i ≡ at = let w = n.within in omega arith in
    let q : slice i at ws ≡ [] = rw e (slice_empty at ws) in
    (n.so, sym (rw q at n.same), n.seen)

module _ (ws : List ℤ) (vs : List ℕ) (at : ℕ) (u : ℤ) (n : ℕ) (h : Head ws vs at u n) where
  pub on-held : look vs all_false (slice (at + 1) (at + 1 + n) ws) ≡ is_held → Outer ws vs (at + 1 + n) u
  on-held e = record {
    within = h.within;
    fuel = h.fuel;
    fine = h.fine;
    so = h.so;
    kept = h.kept;
    same = sym (pass-held vs h.so _ _ e) ∙ h.same;
  }

  pub on-several : look vs all_false (slice (at + 1) (at + 1 + n) ws) ≡ several → Outer ws vs (at + 1 + n) u
  on-several e = record {
    within = h.within;
    fuel = h.fuel;
    fine = h.fine;
    so = h.so;
    kept = h.kept;
    same = sym (pass-several vs h.so _ _ e) ∙ h.same;
  }

  pub on-unit : (k u' : ℤ) → look vs all_false (slice (at + 1) (at + 1 + n) ws) ≡ sole k → Kept (keep h.so k) u' → Outer ws vs (at + 1 + n) u'
  on-unit k u' e g = record {
    within = h.within;
    fuel = h.fuel;
    fine = h.fine;
    so = keep h.so k;
    kept = g;
    same = sym (pass-unit vs h.so _ _ k e) ∙ h.same;
  }

  pub on-conflict : look vs all_false (slice (at + 1) (at + 1 + n) ws) ≡ all_false → conflicting ≡ seen vs (clauses_of ws)
  on-conflict e = sym (pass-conflict vs h.so _ _ e) ∙ h.same

  keep-kept : (s : Sight) (k : ℤ) → Kept s u → (u ≡ pos 0 → ⊥) → Kept (keep s k) u
  unfolding keep
  keep-kept conflicting k g e = g
  keep-kept (unit j) k g e = g
  keep-kept neither k g e = absurd (e g)

  keep-new : (s : Sight) (k o : ℤ) → Kept s u → u ≡ pos 0 → Bits k o → Kept (keep s k) o
  unfolding keep
  keep-new conflicting k o g e p = absurd g
  keep-new (unit j) k o g e p = absurd (g.some e)
  keep-new neither k o g e p = p

  abbrev Over : ℤ → Type 0
  Over o = (s : Clause) × (look vs all_false (slice (at + 1) (at + 1 + n) ws) ≡ s) × Found s o

  pub over-conflict : (o : ℤ) → Over o → o ≡ pos 0 → conflicting ≡ seen vs (clauses_of ws)
  over-conflict o (all_false, q, g) e = on-conflict q
  over-conflict o (sole k, q, g) e = absurd (g.some e)
  over-conflict o (several, q, g) e = absurd g
  over-conflict o (is_held, q, g) e = absurd g

  pub over-new : (o : ℤ) → Over o → (o ≡ pos 0 → ⊥) → u ≡ pos 0 → Outer ws vs (at + 1 + n) o
  over-new o (all_false, q, g) e d = absurd (e g)
  over-new o (sole k, q, g) e d = on-unit k o q (keep-new h.so k o h.kept d g)
  over-new o (several, q, g) e d = absurd g
  over-new o (is_held, q, g) e d = absurd g

  pub on-skip : Skips (look vs all_false (slice (at + 1) (at + 1 + n) ws)) → Outer ws vs (at + 1 + n) u
  on-skip = ⊎_elim on-several on-held

  pub on-open : (s : Clause) → look vs all_false (slice (at + 1) (at + 1 + n) ws) ≡ s
      → (look vs all_false (slice (at + 1) (at + 1 + n) ws) ≡ all_false → ⊥) → (u ≡ pos 0 → ⊥) → Outer ws vs (at + 1 + n) u
  on-open all_false q p d = absurd (p q)
  on-open (sole k) q p d = on-unit k u q (keep-kept h.so k h.kept d)
  on-open several q p d = on-several q
  on-open is_held q p d = on-held q

pub head_at : (ws : List ℤ) (vs : List ℕ) (at : ℕ) (u : ℤ) → Outer ws vs at u → at < length ws → (n : ℕ) → n ≡ count_of (get_or ws at (pos 0))
    → Head ws vs at u n
head_at ws vs at u o b n e =
    let h = head_of ws vs at u o b in
    rw (e ∙ ap count_of h.head) h

pub head-counts : (ws : List ℤ) (vs : List ℕ) (at : ℕ) (u : ℤ) → Outer ws vs at u → at < length ws
    → get_or ws at (pos 0) ≡ pos (count_of (get_or ws at (pos 0)))
head-counts ws vs at u o b =
    let e = (head_of ws vs at u o b).head in
    e ∙ ap (λ z. pos (count_of z)) (sym e)

-- the list is done
pub end_none : (ws : List ℤ) (vs : List ℕ) (at : ℕ) (u : ℤ) → Outer ws vs at u → length ws ≤ at → (s : Sight) × (s ≡ seen vs (clauses_of ws)) × Kept s u
end_none ws vs at u o b =
    let q : drop at ws ≡ [] = drop_of_length-le ws b in
    (o.so, last o.fuel o.so (rw q at o.same), o.kept)
  where
    last : (f : ℕ) (s : Sight) → pass vs s (cut f []) ≡ seen vs (clauses_of ws) → s ≡ seen vs (clauses_of ws)
    last f s e = end-cut vs f s ∙ e

pub ends-neither : (vs : List ℕ) (u : ℤ) (x : Sight) → (s : Sight) × (s ≡ x) × Kept s u → u ≡ pos 0 → neither ≡ x
ends-neither vs u x (conflicting, q, g) e = absurd g
ends-neither vs u x (unit k, q, g) e = absurd (g.some e)
ends-neither vs u x (neither, q, g) e = q

pub ends-unit : (vs : List ℕ) (u : ℤ) (x : Sight) → (s : Sight) × (s ≡ x) × Kept s u → (u ≡ pos 0 → ⊥) → unit u ≡ x
ends-unit vs u x (conflicting, q, g) e = absurd g
ends-unit vs u x (unit k, q, g) e = ap unit g.bits ∙ q
ends-unit vs u x (neither, q, g) e = absurd (e g)

pub code-true : (t : Truth) (r : ℕ) → r ≡ truth_code t → r ≡ 1 → t ≡ satisfied
unfolding truth_code
code-true falsified r e h = absurd (omega arith)
code-true satisfied r e h = refl
code-true unassigned r e h = absurd (omega arith)

pub code-open : (t : Truth) (r : ℕ) → r ≡ truth_code t → r ≡ 2 → t ≡ unassigned
unfolding truth_code
code-open falsified r e h = absurd (omega arith)
code-open satisfied r e h = absurd (omega arith)
code-open unassigned r e h = refl

pub code-false : (t : Truth) (r : ℕ) → r ≡ truth_code t → (r ≡ 1 → ⊥) → (r ≡ 2 → ⊥) → t ≡ falsified
unfolding truth_code
code-false falsified r e h k = refl
code-false satisfied r e h k = absurd (h e)
code-false unassigned r e h k = absurd (k e)

pub was-none : (u o : ℤ) → ((u ≡ pos 0 → ⊥) → o ≡ pos 0) → (o ≡ pos 0 → ⊥) → u ≡ pos 0
was-none (pos zero) o f p = refl
was-none (pos (suc u)) o f p = absurd (p (f (λ e. let z : suc u ≡ 0 = ap nat_abs e in omega arith)))
was-none (negsuc u) o f p = absurd (p (f (λ e. let z : suc u ≡ 0 = ap nat_abs e in omega arith)))
