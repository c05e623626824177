-- What a test of an end says of the answer.
use Rattle.std.proofs.Common.{◌≡◌, refl}
use Rattle.search_core.specs.declared.run.End.{End}
use Rattle.search_core.specs.declared.run.End.TheVariants.{None, Found, Spent}
use Rattle.search_rules.specs.declared.Steps.{Steps}
use Rattle.search.specs.Answers.{found, end_answer}
use Rattle.search.proofs.MoreSteps.{Unspent}

pub not_found : (end : End) (t : Steps) → (end ≡ Found → ⊥) → (steps : Steps) → end_answer end t ≡ found steps → ⊥
not_found None t h steps e = cc
not_found Found t h steps e = h refl
not_found Spent t h steps e = cc

pub not_spent : (end : End) (t : Steps) → (end ≡ Spent → ⊥) → Unspent (end_answer end t)
not_spent None t h steps e = cc
not_spent Found t h steps e = cc
not_spent Spent t h steps e = h refl
