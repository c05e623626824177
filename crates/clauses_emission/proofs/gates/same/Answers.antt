-- `gates::same` meets its contract.
use borrow.Author.Rules.{rules}
use mathlib.Core.List.{[], ◌∷◌}
use Rattle.literal.specs.Words.{literal_of}
use Rattle.literal.proofs.Signs.{back}
use Rattle.clauses_rules.specs.Builder.{◌>>=◌}
use Rattle.clauses_rules.specs.Translation as two
use Rattle.clauses_emission.proofs.Steps.{emits-read, emits-bind, regular-bind, regular-or, regular-and}
use Rattle.clauses_emission.proofs.gates.same.Goals as goal

pub returns : goal.returns
returns c =
    let p = c.args.p in
    let q = c.args.q in
    let x = c.implies-x in
    let y = c.implies-y in
    let ex = back x.result (search rules) in
    let ey = back y.result (search rules) in
    let ep = back p c.ranges.p in
    let eq = back q c.ranges.q in
    emits-read (search rules)
    (emits-bind (two.implies (literal_of p, literal_of q))
    (λ l. two.implies (literal_of q, literal_of p) >>= λ m. two.both (l, m))
    (regular-or _)
    (λ l. regular-bind (two.implies (literal_of q, literal_of p)) (λ m. two.both (l, m)) (regular-or _)
    (λ m. regular-and (l ∷ m ∷ [])))
    (rw (ep, eq) at x.ensures)
    (emits-bind (two.implies (literal_of q, literal_of p)) (λ m. two.both (literal_of x.result, m))
    (regular-or _) (λ m. regular-and (literal_of x.result ∷ m ∷ []))
    (rw (eq, ep) at y.ensures)
    (rw (ex, ey) at c.both.ensures)))
