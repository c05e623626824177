use Rattle.std.proofs.Common.{sym, ◌∙◌, refl, ap}
use Rattle.relational.specs.declared.Symbol.TheVariants.{Leaf as leaf-symbol}
use Rattle.relational.specs.Trees.{symbol_of}
use Rattle.nodes.proofs.Numbers.{number-of}
use Rattle.clauses_kinds.proofs.leaves.leaf.Goals as goal

pub apply_leaf-requires : goal.apply_leaf-requires
apply_leaf-requires c e =
    c.requires (number-of c.args.kind _ (sym c.symbol_of.ensures ∙ c.in-Leaf.is ∙ ap leaf-symbol e) refl)
