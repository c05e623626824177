-- Rows and cells of relations, from the bytes of their declarations.
use mathlib.Core.Path.{◌≡◌, refl, sym, ap, ap₂, ◌∙◌}
use mathlib.Core.Logic.{⊎_elim}
use mathlib.Core.Bool.{Bool, true, false, cond, false≢true}
use mathlib.Core.List.{List}
use Prim.Native.Nat.{ℕ, zero, suc, ◌+◌, ◌*◌, ◌≤◌, ◌<◌}
use native.Mathlib.Nat.{eq-or-lt_of_le, mul-le-mul}
use native.Mathlib.Numerals.{add-one}
use native.Mathlib.Omega.{arith}
use lib.ListN.{length, get_or, set, replicate, length-set}
use lib.Seq.{get_or-set_same, get_or-set_other}
use borrow.Author.Tests.{eq-eqb, ne_eqb}
use Rattle.sheet_rules.specs.Blocks.{Sheet, sheet_of, sort_count, scope, is_bounded, columns, first_sort, second_sort}
use Rattle.sheet_rules.specs.Facts.{Facts}
use Rattle.sheet_rules.specs.declared.Layout.{Layout}
use Rattle.sheet_rules.specs.Reading.{accepted, reading}
use Rattle.sheet_rules.proofs.Acceptance.{accepted-facts}
use Rattle.relational.specs.Cells.{is_set, row_count, row_length, cells_of, members_of, first_member, member_count, first_cell}
use Rattle.relational.proofs.Scopes.{bounded-there}

module _ (sheet : Sheet) (r : ℕ) {k : ℕ} (ek : k ≡ columns sheet r) where
  pub set_is : k ≡ 1 → is_set sheet r ≡ true
  set_is h = rw (← ek) (eq-eqb k 1 h)

  pub relation-is : (k ≡ 1 → ⊥) → is_set sheet r ≡ false
  relation-is h = rw (← ek) (ne_eqb k 1 h)

  pub set-rows : k ≡ 1 → 1 ≡ row_count sheet r
  set-rows h = rw (set_is h)

  pub relation-rows : (k ≡ 1 → ⊥) → {s n : ℕ} → s ≡ first_sort sheet r → n ≡ scope sheet s → n ≡ row_count sheet r
  relation-rows h p q = rw (relation-is h, ← p) q

  pub set-length : k ≡ 1 → {s n : ℕ} → s ≡ first_sort sheet r → n ≡ scope sheet s → n ≡ row_length sheet r
  set-length h p q = rw (set_is h, ← p) q

  pub relation-length : (k ≡ 1 → ⊥) → {s n : ℕ} → s ≡ second_sort sheet r → n ≡ scope sheet s → n ≡ row_length sheet r
  relation-length h p q = rw (relation-is h, ← p) q

module _ (sheet : Sheet) (facts : Facts sheet) where
  pub rows-most : (r : ℕ) → row_count sheet r ≤ 8
  rows-most r = most (is_set sheet r)
    where
      most : (b : Bool) → cond b 1 (scope sheet (first_sort sheet r)) ≤ 8
      most true = omega arith
      most false = facts.scope_few (first_sort sheet r)

  pub length_most : (r : ℕ) → row_length sheet r ≤ 8
  length_most r = most (is_set sheet r)
    where
      most : (b : Bool) → cond b (scope sheet (first_sort sheet r)) (scope sheet (second_sort sheet r)) ≤ 8
      most true = facts.scope_few (first_sort sheet r)
      most false = facts.scope_few (second_sort sheet r)

  members-most : (k : ℕ) → members_of sheet k ≤ 8
  members-most k = most (is_bounded sheet k)
    where
      most : (b : Bool) → cond b (scope sheet k) 0 ≤ 8
      most true = facts.scope_few k
      most false = omega arith

  pub first-member-most : (k : ℕ) → first_member sheet k ≤ 8 * k
  unfolding first_member
  first-member-most zero = omega arith
  first-member-most (suc k) = omega (arith, first-member-most k, members-most k)

  pub first-most : (r : ℕ) → first_cell sheet r ≤ 64 + 64 * r
  unfolding first_cell
  first-most zero = omega (arith, first-member-most (sort_count sheet), facts.counts.few_sorts)
  first-most (suc r) = omega (arith, first-most r, mul-le-mul (rows-most r) (length_most r))

pub sort-low : (s : List ℕ) {l : Layout} → reading s ≡ accepted l → (k : ℕ) {b : Bool} → b ≡ is_bounded (sheet_of s) k
    → b ≡ true → k < 8
sort-low s {l} taken k e t = omega (
  arith,
  bounded-there (sheet_of s) k (sym e ∙ t),
  (accepted-facts s l taken).counts.few_sorts,
)

-- the membership cells of the sorts before one
pub member-none : (sheet : Sheet) → 0 ≡ first_member sheet 0
unfolding first_member
member-none sheet = refl

pub member-more : (sheet : Sheet) (k : ℕ) {n a : ℕ} → n ≡ first_member sheet k → a ≡ members_of sheet k
    → n + a ≡ first_member sheet (k + 1)
unfolding first_member
member-more sheet k {n} {a} e f = rw (add-one k) (ap₂ ◌+◌ e f)

pub bounded-members : (sheet : Sheet) (k : ℕ) {b : Bool} {n : ℕ} → b ≡ is_bounded sheet k → b ≡ true → n ≡ scope sheet k
    → n ≡ members_of sheet k
bounded-members sheet k {n} e t q = go (is_bounded sheet k) (sym e ∙ t)
  where
    go : (b : Bool) → b ≡ true → n ≡ cond b (scope sheet k) 0
    go true t = q
    go false t = absurd (false≢true t)

pub full-members : (sheet : Sheet) (k : ℕ) {b : Bool} → b ≡ is_bounded sheet k → b ≡ false → 0 ≡ members_of sheet k
full-members sheet k e t = go (is_bounded sheet k) (sym e ∙ t)
  where
    go : (b : Bool) → b ≡ false → 0 ≡ cond b (scope sheet k) 0
    go false t = refl
    go true t = absurd (false≢true (sym t))

-- the cells of a relation stand before those of the next
pub relation-ends : (sheet : Sheet) (r n : ℕ) → r < n → first_cell sheet r + cells_of sheet r ≤ first_cell sheet n
unfolding first_cell
relation-ends sheet r zero h = absurd (omega arith)
relation-ends sheet r (suc n) h =
    ⊎_elim (λ e. rw e (omega arith)) (λ l. omega (arith, relation-ends sheet r n l)) (eq-or-lt_of_le (omega arith))

-- what the loop over the relations has: the cells of those before r, and where each starts
pub record Stored (sheet : Sheet) (n : ℕ) (starts : List ℕ) (r : ℕ) : Type 0 where
  pub long : length starts ≡ 16
  pub next : n ≡ first_cell sheet r
  pub first : (q : ℕ) → q < r → get_or starts q 0 ≡ first_cell sheet q

pub stored-none : (sheet : Sheet) (n : ℕ) → n ≡ member_count sheet → Stored sheet n (replicate 16 0) 0
unfolding first_cell
stored-none sheet n e = record { long = refl; next = e; first = λ q l. absurd (omega arith) }

pub stored_more : {sheet : Sheet} {starts : List ℕ} {n r a b : ℕ} → r < 16 → a ≡ row_count sheet r → b ≡ row_length sheet r
    → Stored sheet n starts r → Stored sheet (n + a * b) (set starts r n) (r + 1)
unfolding first_cell
stored_more {sheet} {starts} {n} {r} {a} {b} l ea eb h =
    record {
      long = length-set starts r n ∙ h.long;
      next = rw (add-one r, ea, eb) (ap (λ (m : ℕ). m + cells_of sheet r) h.next);
      first = λ q p.
          ⊎_elim (λ s. rw s (get_or-set_same starts r n 0 (omega (arith, h.long)) ∙ h.next))
          (λ s. get_or-set_other starts r q n 0 (λ z. absurd (omega (arith, z))) ∙ h.first q s) (eq-or-lt_of_le (omega arith));
    }
