use Rattle.std.proofs.Common.{◌≡◌, Option, Some, None, ℤ, pos, negsuc, ap, ◌∙◌, arith, rules}
use Rattle.std.specs.Option.{MatchOption, IfSome, IsSomeAnd}
use mir.Syntax.{w32}
use mir.Val.{SFits}
use Rattle.literal.specs.Literals.{opposite}
use Rattle.literal.specs.Words.{literal_of, opposite_word}
use Rattle.literal.proofs.Signs.{read, back}
use Rattle.clauses_rules.specs.Translation.{either, both}
use Rattle.clauses_emission.specs.Emission.{Inside}
use Rattle.clauses_emission.specs.Settling.{Told, Tells}
use Rattle.clauses_emission.proofs.Ranges.{opposite-read, opposite-word, inside-opposite}
use Rattle.clauses_emission.proofs.Twos.{told-turned}
use Rattle.clauses_emission.proofs.gates.told_both.Goals as goal

told-map : {u v p q : ℤ} {R : ℤ → ℤ → Type 0} (told more : Option ℤ) → Tells u v told
    → MatchOption told (more ≡ None) (λ r. IsSomeAnd more (R r))
    → ((r l : ℤ) → Told either u v r → R r l → Told both p q l) → IfSome more (λ l. Told both p q l)
told-map None more t e go = rw e tt
told-map (Some r) None t h go = absurd h
told-map (Some r) (Some l) t h go = go r l t h

-- a word of a variable in range is one that the machine holds
fits : (r : ℤ) → Inside 16002 (literal_of r) → SFits w32 r
fits (pos n) i = record { sfits = omega (arith, i.high) }
fits (negsuc n) i = record { sfits = omega (arith, i.high) }

pub returns : goal.returns
returns c =
    let x = c.opposite in
    let y = c.opposite-2 in
    let e : literal_of (read x.result) ≡ opposite (literal_of c.args.p) =
    opposite-read 16002 c.args.p x.result (omega arith) c.ranges.p c.requires.inside x.ensures
    (record { sfits = x.type_inv }) in
    let f : literal_of (read y.result) ≡ opposite (literal_of c.args.q) =
    opposite-read 16002 c.args.q y.result (omega arith) c.ranges.q c.requires.inside_2 y.ensures
    (record { sfits = y.type_inv }) in
    let i : Inside 16002 (literal_of (read x.result)) = rw e (inside-opposite (literal_of c.args.p) c.requires.inside) in
    let j : Inside 16002 (literal_of (read y.result)) = rw f (inside-opposite (literal_of c.args.q) c.requires.inside_2) in
    told-map c.told.result c.map.result c.told.ensures c.map.ensures.cases
    (λ r l t h.
    let k = t.inside {n = 16002} (omega arith) i j in
    let w : l ≡ opposite_word (read r) = search rules in
    told-turned e f (ap literal_of (w ∙ ap opposite_word (back r (fits r k))) ∙ opposite-word 16002 r (omega arith) k) t)
