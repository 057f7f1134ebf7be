-- Texts put into a buffer one after the other. Assumes nothing.
use Prim.Native.Nat.{ℕ, suc, ◌+◌, ◌≤◌, ◌<◌}
use native.Mathlib.Nat.{le_refl, add_assoc}
use native.Mathlib.Numerals.{add-one}
use native.Mathlib.Omega.{arith}
use mathlib.Core.Path.{◌≡◌, refl, ◌∙◌, sym, ap}
use mathlib.Core.List.{List, [], ◌∷◌, ◌++◌, append_assoc, append-nil}
use borrow.Author.Tests.{le-leb}
use lib.ListN.{length, take, drop, set, length-append}
use lib.Seq.{set_split, append_snoc, take-length, take-paste, drop-paste, drop-drop, length-paste, paste-zero}
use Rattle.writer.specs.Writing.{put, placed}
use Rattle.writer.specs.declared.Cursor.{Cursor}
use Rattle.writer.specs.Code.{Puts}
use Rattle.writer.specs.Cursor.{Moves}

pub put_put : (d : List ℕ) (at : ℕ) (s t : List ℕ) → at ≤ length d → put (put d at s) (at + length s) t ≡ put d at (s ++ t)
put_put d at s t h =
    let n = at + length s in
    let head : take n (put d at s) ≡ take at d ++ take (length s) s = take-paste d at s (length s) h (le_refl (length s)) in
    let tail : drop (n + length t) (put d at s) ≡ drop (n + length t) d =
    sym (drop-drop (length t) n (put d at s)) ∙ ap (drop (length t)) (drop-paste d at s (length s) h (le_refl (length s))) ∙ drop-drop (length t) n d in
    rw (head, tail, take-length (s ++ t)) (simp (take-length, length-append, append_assoc, add_assoc))

module _ (d : List ℕ) (at : ℕ) (s : List ℕ) (h : at + length s ≤ length d) where
  pub put_length : length (put d at s) ≡ length d
  put_length = length-paste d at s (length s) h (le_refl (length s))

  pub put_take : take (at + length s) (put d at s) ≡ take at d ++ s
  put_take = take-paste d at s (length s) (omega arith) (le_refl (length s)) ∙ ap (◌++◌ (take at d)) (take-length s)

  pub put_drop : drop (at + length s) (put d at s) ≡ drop (at + length s) d
  put_drop = drop-paste d at s (length s) (omega arith) (le_refl (length s))

-- nothing is put
pub puts_none : (d : List ℕ) (at : ℕ) → Puts d at [] d at
puts_none d at = record { bytes = paste-zero d at []; ends = omega arith }

-- a byte is stored
pub puts_byte : (d : List ℕ) (at b : ℕ) → at < length d → Puts d at (b ∷ []) (set d at b) (at + 1)
puts_byte d at b h = record { bytes = set_split d at b h ∙ rw (add-one at) (sym (append_snoc (take at d) b (drop (suc at) d))); ends = refl }

pub same_length : {d e s : List ℕ} {at m : ℕ} → Puts d at s e m → at + length s ≤ length d → length e ≡ length d
same_length {d} {e} {s} {at} p room = ap length p.bytes ∙ put_length d at s room

module _ {d e : List ℕ} {at m : ℕ} (s t : List ℕ) (first : Puts d at s e m) (room : at + length (s ++ t) ≤ length d) where
  -- what is left after the first text has space
  pub space : m + length t ≤ length e
  space =
      let l = length-append s t in
      let k = same_length first (omega arith) in
      omega (arith, first.ends)

  -- two texts are one
  pub both : {g : List ℕ} {n : ℕ} → Puts e m t g n → Puts d at (s ++ t) g n
  both {g} {n} second =
      record {
        bytes = cc (put_put d at s t (omega arith));
        ends = omega (arith, first.ends, second.ends, length-append s t);
      }

-- the first of two texts has space
pub space_first : (d : List ℕ) (at : ℕ) (s t : List ℕ) → at + length (s ++ t) ≤ length d → at + length s ≤ length d
space_first d at s t room = omega (arith, length-append s t)

-- the text is another's
pub puts_as : {d e s t : List ℕ} {at n : ℕ} → s ≡ t → Puts d at s e n → Puts d at t e n
puts_as e p = rw e at p

-- the same of a cursor, which is moved
pub moves_both : {x y z : Cursor} (s t : List ℕ) → Moves x y s → x.at + length (s ++ t) ≤ length x.buf.now → Moves y z t → Moves x z (s ++ t)
moves_both s t first room second = record { puts = both s t first.puts room second.puts; same_reference = second.same_reference ∙ first.same_reference }

pub moves_as : {x y : Cursor} {s t : List ℕ} → s ≡ t → Moves x y s → Moves x y t
moves_as e m = rw e at m

-- a text that is put in pieces: what is done, and what is left
pub record Partway (d : List ℕ) (at : ℕ) (whole e : List ℕ) (m : ℕ) (rest : List ℕ) : Type 0 where
  pub done : List ℕ
  pub puts : Puts d at done e m
  pub left : done ++ rest ≡ whole

pub begun : (d : List ℕ) (at : ℕ) (whole : List ℕ) → Partway d at whole d at whole
begun d at whole = record { done = []; puts = puts_none d at; left = refl }

pub finished : {d whole e : List ℕ} {at m : ℕ} → Partway d at whole e m [] → Puts d at whole e m
finished w = puts_as (sym (append-nil w.done) ∙ w.left) w.puts

pub kept : {d whole e rest : List ℕ} {at m : ℕ} → Partway d at whole e m rest → at + length whole ≤ length d → length e ≡ length d
kept {rest = rest} w room = same_length w.puts (omega (arith, length-append w.done rest, ap length w.left))

module _ {d whole e : List ℕ} {at m : ℕ} (s t : List ℕ) (w : Partway d at whole e m (s ++ t)) (room : at + length whole ≤ length d) where
  whole_fits : at + length (w.done ++ (s ++ t)) ≤ length d
  whole_fits = rw w.left room

  pub next_space : m + length s ≤ length e
  next_space = space_first e m s t (space w.done (s ++ t) w.puts whole_fits)

  pub next : {g : List ℕ} {n : ℕ} → Puts e m s g n → Partway d at whole g n t
  next piece = record {
    done = w.done ++ s;
    puts = both w.done s w.puts (space_first d at (w.done ++ s) t (rw append_assoc whole_fits)) piece;
    left = append_assoc w.done s t ∙ w.left;
  }

-- a text that fits is placed, and one that does not is not
module _ (d : List ℕ) (at : ℕ) (text : List ℕ) where
  pub placed_fits : at + length text ≤ length d → placed d at text ≡ put d at text
  placed_fits h = rw (le-leb (at + length text) (length d) h, placed)
