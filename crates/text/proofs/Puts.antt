-- Pieces of text put one after the other.
use mathlib.Core.Path.{◌≡◌, refl, sym, ap, ◌∙◌}
use mathlib.Core.List.{List, [], ◌∷◌, ◌++◌}
use Prim.Native.Nat.{ℕ, ◌+◌, ◌≤◌}
use native.Mathlib.Nat.{add-zero}
use native.Mathlib.Omega.{arith}
use lib.ListN.{length, set, take, length-append}
use lib.Seq.{length-take-le}
use Rattle.prelude.specs.Stores.{put_all}
use Rattle.prelude.proofs.Stores.{put-none, put_one, put_then, put_front, length-put}
use Rattle.text.specs.Texts.{Prints}
use Rattle.text.specs.Puts.{Room, Put}

pub put-nothing : (old : List ℕ) (at : ℕ) → Put old at [] old at
put-nothing old at = record { ends = sym (add-zero at); holds = sym (put-none old at) }

pub put_byte : (old : List ℕ) (at b : ℕ) → Put old at (b ∷ []) (set old at b) (at + 1)
put_byte old at b = record { ends = refl; holds = sym (put_one old at b) }

-- one piece, and then another
pub put_both : {old mid new us ws : List ℕ} {at m end : ℕ} → Put old at us mid m → Put mid m ws new end → Put old at (us ++ ws) new end
put_both {old} {mid} {new} {us} {ws} {at} {m} {end} p q = record {
  ends = omega (arith, p.ends, q.ends, length-append us ws);
  holds =
      q.holds
      ∙ ap (λ (l : List ℕ). put_all l m ws) p.holds
      ∙ ap (λ (k : ℕ). put_all (put_all old at us) k ws) p.ends
      ∙ put_then old at us ws;
}

-- the same piece by another name
pub put_as : {old new us ws : List ℕ} {at end : ℕ} → us ≡ ws → Put old at us new end → Put old at ws new end
put_as {old} {new} {us} {ws} {at} {end} e p = rw e at p

pub put-length : {old new piece : List ℕ} {at end : ℕ} → Put old at piece new end → length new ≡ length old
put-length {old} {new} {piece} {at} {end} p = ap length p.holds ∙ length-put old at piece

pub room-first : (text : List ℕ) (at : ℕ) (us ws : List ℕ) → Room text at (us ++ ws) → Room text at us
room-first text at us ws r = omega (arith, length-append us ws)

-- a whole piece of which a rest is still to be put
pub record Left (old : List ℕ) (at : ℕ) (whole new : List ℕ) (end : ℕ) (rest : List ℕ) : Type 0 where
  pub ends : end + length rest ≡ at + length whole
  pub holds : put_all new end rest ≡ put_all old at whole
  pub same : length new ≡ length old

pub left-all : (old : List ℕ) (at : ℕ) (whole : List ℕ) → Left old at whole old at whole
left-all old at whole = record { ends = refl; holds = refl; same = refl }

pub left_as : {old whole new us ws : List ℕ} {at end : ℕ} → us ≡ ws → Left old at whole new end us → Left old at whole new end ws
left_as {old} {whole} {new} {us} {ws} {at} {end} e l = rw e at l

module _ {old whole new : List ℕ} {at end : ℕ} where
  pub left-room : {rest : List ℕ} → Room old at whole → Left old at whole new end rest → Room new end rest
  left-room {rest} r l = omega (arith, l.ends, l.same)

  pub left-put : {us ws next : List ℕ} {e : ℕ} → Left old at whole new end (us ++ ws) → Put new end us next e → Left old at whole next e ws
  left-put {us} {ws} {next} {e} l p = record {
    ends = omega (arith, l.ends, p.ends, length-append us ws);
    holds =
        ap (λ (t : List ℕ). put_all t e ws) p.holds
        ∙ ap (λ (k : ℕ). put_all (put_all new end us) k ws) p.ends
        ∙ put_then new end us ws
        ∙ l.holds;
    same = put-length p ∙ l.same;
  }

  pub left-none : Left old at whole new end [] → Put old at whole new end
  left-none l = record { ends = omega (arith, l.ends); holds = sym (put-none new end) ∙ l.holds }

  pub left-last : {us next : List ℕ} {e : ℕ} → Left old at whole new end us → Put new end us next e → Put old at whole next e
  left-last {us} {next} {e} l p = record { ends = omega (arith, l.ends, p.ends); holds = p.holds ∙ l.holds }

-- a text that was put to the front of a slice is printed there
module _ {old new piece : List ℕ} {end : ℕ} (p : Put old 0 piece new end) (h : end ≤ length old) where
  pub prints : Prints piece old new end
  prints =
      record { ends = omega (arith, p.ends); stands = p.holds ∙ put_front old piece (omega (arith, p.ends)) }

  -- as many bytes as can be taken from the front
  pub counts : (end ≤ length new) × (end ≡ length (take end new))
  counts =
      let l : end ≤ length new = omega (arith, put-length p) in
      (l, sym (length-take-le end new l))
