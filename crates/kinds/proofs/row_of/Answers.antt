-- Row by row, the table of src/lib.rt is that of specs/Kinds.
use mathlib.Core.Path.{◌≡◌, refl, ap, ◌∙◌}
use mathlib.Core.List.{List, [], ◌∷◌}
use Prim.Native.Nat.{ℕ, zero, suc, ◌+◌, ◌<◌}
use native.Mathlib.Nat.{not-suc-le-zero, le_of_suc-le-suc}
use native.Mathlib.Omega.{arith}
use lib.ListN.{get_or, length}
use Rattle.kinds.specs.declared.Row.{Row}
use Rattle.kinds.specs.declared.Field.TheVariants.{Unused, Node, Relation, Variable, Sort}
use Rattle.kinds.specs.declared.Rule.TheVariants.{Unknown, OfRelation, OfVariable, OfSort, OfIdentity, Same, Join, Product, Inverse}
use Rattle.kinds.specs.declared.Rule.TheVariants.{Closure, Comprehension, Comparison, Test, Negation, Connective, Quantifier}
use Rattle.kinds.specs.Kinds.{row, row_of}
use Rattle.kinds.proofs.row_of.Goals as goal

-- these are the rows of the kinds from one on
abbrev Rows : ℕ → List Row → Type 0
Rows k [] = Unit {0}
Rows k (r ∷ rs) = (r ≡ row_of k) × Rows (k + 1) rs

rows-at : (rs : List Row) (k i n : ℕ) (d : Row) → Rows k rs → i < length rs → k + i ≡ n → get_or rs i d ≡ row_of n
rows-at [] k i n d h l e = absurd (not-suc-le-zero l)
rows-at (r ∷ rs) k zero n d h l e = let f : k ≡ n = omega (arith, e) in h.0 ∙ ap row_of f
rows-at (r ∷ rs) k (suc i) n d h l e = rows-at rs (k + 1) i n d h.1 (le_of_suc-le-suc l) (omega (arith, e))

abbrev none : Row
none = row Unused Unused Unknown

-- the table of src/lib.rt
abbrev table : List Row
table =
    none ∷ row Relation Unused OfRelation ∷ row Variable Unused OfVariable ∷ row Sort Unused OfSort ∷ row Sort
    Unused OfIdentity ∷ row Node Node Same ∷ row Node Node Same ∷ row Node Node Same ∷ row Node Node Join ∷
    row Node Node Product ∷ row Node Unused Inverse ∷ row Node Unused Closure ∷ row Variable Node
    Comprehension ∷ none ∷ none ∷ none ∷ none ∷ none ∷ none ∷ none ∷ row Node Node Comparison ∷ row Node Node
    Comparison ∷ row Node Unused Test ∷ row Node Unused Test ∷ row Node Unused Test ∷ none ∷ none ∷ none ∷
    none ∷ none ∷ row Node Unused Negation ∷ row Node Node Connective ∷ row Node Node Connective ∷ row Node
    Node Connective ∷ row Node Node Connective ∷ none ∷ none ∷ none ∷ none ∷ none ∷ row Variable Node
    Quantifier ∷ row Variable Node Quantifier ∷ []

the-rows : Rows 0 table
unfolding row_of
the-rows = (
  refl,
  (
    refl,
    (
      refl,
      (
        refl,
        (
          refl,
          (
            refl,
            (
              refl,
              (
                refl,
                (
                  refl,
                  (
                    refl,
                    (
                      refl,
                      (
                        refl,
                        (
                          refl,
                          (
                            refl,
                            (
                              refl,
                              (
                                refl,
                                (
                                  refl,
                                  (
                                    refl,
                                    (
                                      refl,
                                      (
                                        refl,
                                        (
                                          refl,
                                          (
                                            refl,
                                            (
                                              refl,
                                              (
                                                refl,
                                                (
                                                  refl,
                                                  (
                                                    refl,
                                                    (
                                                      refl,
                                                      (
                                                        refl,
                                                        (
                                                          refl,
                                                          (
                                                            refl,
                                                            (
                                                              refl,
                                                              (
                                                                refl,
                                                                (
                                                                  refl,
                                                                  (
                                                                    refl,
                                                                    (
                                                                      refl,
                                                                      (
                                                                        refl,
                                                                        (
                                                                          refl,
                                                                          (
                                                                            refl,
                                                                            (
                                                                              refl,
                                                                              (
                                                                                refl,
                                                                                (refl, (refl, tt)),
                                                                              ),
                                                                            ),
                                                                          ),
                                                                        ),
                                                                      ),
                                                                    ),
                                                                  ),
                                                                ),
                                                              ),
                                                            ),
                                                          ),
                                                        ),
                                                      ),
                                                    ),
                                                  ),
                                                ),
                                              ),
                                            ),
                                          ),
                                        ),
                                      ),
                                    ),
                                  ),
                                ),
                              ),
                            ),
                          ),
                        ),
                      ),
                    ),
                  ),
                ),
              ),
            ),
          ),
        ),
      ),
    ),
  ),
)

pub returns-then-kind-lt42 : goal.returns-then-kind-lt42
returns-then-kind-lt42 c = rows-at table 0 c.args.kind c.args.kind none the-rows c.if-kind-lt42.true (omega arith)
