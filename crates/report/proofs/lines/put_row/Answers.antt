use mathlib.Core.Path.{◌≡◌, ap}
use mathlib.Core.List.{List, [], ◌∷◌}
use Prim.Native.Nat.{ℕ, ◌+◌}
use native.Mathlib.Omega.{arith}
use Rattle.text.specs.Puts.{Put}
use Rattle.text.proofs.Puts.{put_byte, put_both, put_as}
use Rattle.sheet_rules.specs.Blocks.{byte}
use Rattle.report.specs.Printed.{cell_digit}
use Rattle.report.specs.Private.{row_from}
use Rattle.report.proofs.Pieces.{put-none-of, put-more}
use Rattle.report.proofs.lines.put_row.Goals as goal

-- a piece ends at one place
ends_at : {old new piece : List ℕ} {at m end : ℕ} → Put old at piece new m → m ≡ end → Put old at piece new end
ends_at p e = rw e at p

pub loop-j-init : goal.loop-j-init
loop-j-init c = ends_at (put-none-of _ _ _) (omega arith)

pub loop-j-preserved : goal.loop-j-preserved
loop-j-preserved c =
    let k = c.loop-j in
    let f : ℕ → List ℕ = λ n. cell_digit (byte c.args.instance.now (c.args.first + n)) ∷ [] in
    let e = ap (λ (b : ℕ). b ∷ []) c.cell_digit.ensures in
    ends_at (put-more f k.j k.invariant (put_as e (put_byte k.text (c.args.at + 1 + k.j) c.cell_digit.result)))
    (omega arith)

pub returns : goal.returns
unfolding row_from
returns c =
    let k = c.loop-j in
    let e : k.j ≡ c.args.columns = omega arith in
    rw (← e) (put_both (put_byte c.args.text.now c.args.at 32) k.invariant)
