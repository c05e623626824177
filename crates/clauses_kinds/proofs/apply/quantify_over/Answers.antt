use Rattle.std.proofs.Common.{◌≡◌, sym, ◌∙◌, rules}
use Rattle.relational.specs.declared.Symbol.TheVariants.{Quantifier as quantifier-symbol}
use Rattle.clauses_emission.proofs.Steps.{emits-read}
use Rattle.clauses_kinds.proofs.apply.quantify_over.Goals as goal

pub returns-in-Quantifier : goal.returns-in-Quantifier
returns-in-Quantifier c env o e =
    let z : quantifier-symbol c.in-Quantifier.operator ≡ quantifier-symbol o =
    sym c.in-Quantifier.is ∙ c.symbol_of.ensures ∙ e in
    let w : c.in-Quantifier.operator ≡ o = cc in
    rw (← w) (emits-read (search rules) (c.apply_quantifier.ensures env))
