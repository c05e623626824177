-- Capped numbers of visits: what is capped before a step may be capped after it.
use mathlib.Core.Path.{◌≡◌, refl}
use mathlib.Core.Bool.{Bool, true, false, cond}
use Prim.Native.Nat.{ℕ, zero, suc, ◌+◌, ◌*◌, ◌≤◌}
use native.Mathlib.Omega.{arith}
use native.Mathlib.Nat.{mul-le-mul_left, mul-le-mul_right, zero-mul}
use native.Mathlib.Decide.{dec_le}
use Rattle.kinds.specs.declared.Row.{Row}
use Rattle.sheet_rules.specs.Tables.{is_node, is_variable, visits_by}
use Rattle.sheet.specs.Filling.{capped}

pub capped_le : (n : ℕ) → capped n ≤ 1000001
capped_le n = omega arith

cond-capped : (test : Bool) (n : ℕ) → cond test (capped n) 0 ≡ capped (cond test n 0)
cond-capped true n = refl
cond-capped false n = refl

-- the sum of a node: one visit, those of field a, and those of field b for each atom
capped-sum : (p q times : ℕ) → capped (1 + capped p + times * capped q) ≡ capped (1 + p + times * q)
capped-sum p q times = go (dec_le p 1000001) (dec_le q 1000001)
  where
    many : (times : ℕ) → (q ≤ 1000001 → ⊥) → capped (1 + p + times * 1000001) ≡ capped (1 + p + times * q)
    many zero h = rw (zero-mul 1000001, zero-mul q) refl
    many (suc k) h =
        let one : 1 ≤ suc k = omega arith in
        let more : 1000001 ≤ q = omega arith in
        omega (arith, mul-le-mul_right 1000001 one, mul-le-mul_left (suc k) more)

    go : Dec (p ≤ 1000001) → Dec (q ≤ 1000001) → capped (1 + capped p + times * capped q) ≡ capped (1 + p + times * q)
    go (yes hp) (yes hq) =
        let ep : capped p ≡ p = omega arith in
        let eq : capped q ≡ q = omega arith in
        rw (ep, eq) refl
    go (yes hp) (no hq) =
        let ep : capped p ≡ p = omega arith in
        let eq : capped q ≡ 1000001 = omega arith in
        rw (ep, eq) (many times hq)
    go (no hp) d = omega arith

pub capped-visits : (row : Row) (atoms p q : ℕ) → capped (visits_by row atoms (capped p) (capped q)) ≡ capped (visits_by row atoms p q)
capped-visits row atoms p q =
    rw (cond-capped (is_node row.a) p, cond-capped (is_node row.b) q)
    (capped-sum (cond (is_node row.a) p 0) (cond (is_node row.b) q 0) (cond (is_variable row.a) atoms 1))
