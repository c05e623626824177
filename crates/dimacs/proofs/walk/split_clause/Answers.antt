-- The clause that the first word counts.
use Rattle.std.proofs.Common.{◌≡◌, ◌∙◌, ap, rules}
use Rattle.literal.specs.Words.{count_of}
use Rattle.literal.proofs.Signs.{read}
use Rattle.dimacs.proofs.Walks.{front-within, front}
use Rattle.dimacs.proofs.walk.split_clause.Goals as goal

pub split_at-requires : goal.split_at-requires
split_at-requires c =
    let e : read c.in_ok-head.head.now ≡ c.in_ok-head.head.now = search rules in
    front-within c.requires c.in_ok-head.ensures.cases.0 (c.count.ensures ∙ ap count_of e)

pub returns : goal.returns
returns c =
    let e : read c.in_ok-head.head.now ≡ c.in_ok-head.head.now = search rules in
    let f = front c.requires c.in_ok-head.ensures.cases.0 (c.count.ensures ∙ ap count_of e) in
    rw (c.split_at.ensures.front, c.split_at.ensures.back) f
