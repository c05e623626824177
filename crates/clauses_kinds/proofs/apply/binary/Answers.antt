use Rattle.std.proofs.Common.{◌≡◌, sym, ◌∙◌}
use Rattle.relational.specs.declared.Symbol.TheVariants.{Binary as binary-symbol}
use Rattle.clauses_kinds.proofs.apply.binary.Goals as goal

pub returns-in-Binary : goal.returns-in-Binary
returns-in-Binary c o e =
    let z : binary-symbol c.in-Binary.operator ≡ binary-symbol o = sym c.in-Binary.is ∙ c.symbol_of.ensures ∙ e in
    let w : c.in-Binary.operator ≡ o = cc in
    rw (← w) c.apply_binary.ensures
