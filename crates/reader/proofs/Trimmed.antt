-- A trimmed body passes 12 and 13 where the body does. Assumes nothing.
use mathlib.Core.Path.{◌≡◌, refl}
use mathlib.Core.Bool.{Bool, true, false, and-eq-true_iff}
use mathlib.Core.List.{List, [], ◌∷◌}
use Prim.Native.Nat.{ℕ, ◌≤◌}
use native.Mathlib.Omega.{arith}
use lib.Dec.{leb}
use lib.ListN.{length}
use borrow.Author.Tests.{le-leb}
use Rattle.errors.specs.Refusals.{accepted, must}
use Rattle.errors.proofs.Replies.{must_held, then_second}
use Rattle.swift_utils.specs.Bytes.{all}
use Rattle.field_utils.specs.Trim.{white, trimmed_start, keep, trimmed_end, trimmed}
use Rattle.reader.specs.Options.{ascii, body_most, body_reply}
use Rattle.reader.proofs.Bodies.{body_length}
use Rattle.reader.specs.declared.choices.Choice.{Choice}
use Rattle.reader.specs.Choices.{tried_text}
use Rattle.reader.proofs.Trials.{by_choice}

-- what is trimmed is no longer, and passes each test of all bytes that the whole passes
record Part (s t : List ℕ) : Type 0 where
  shorter : length t ≤ length s
  passes : (f : ℕ → Bool) → all f s ≡ true → all f t ≡ true

start_part : (s : List ℕ) → Part s (trimmed_start s)
unfolding trimmed_start
start_part [] = record { shorter = omega arith; passes = λ f e. e }
start_part (b ∷ s) = go (white b) refl (start_part s)
  where
    go : (t : Bool) → white b ≡ t → Part s (trimmed_start s) → Part (b ∷ s) (trimmed_start (b ∷ s))
    go true w p = rw (w, trimmed_start) (record { shorter = omega (arith, p.shorter); passes = λ f e. p.passes f ((and-eq-true_iff (f b) (all f s)).0 e).1 })
    go false w p = rw (w, trimmed_start) (record { shorter = omega arith; passes = λ f e. e })

keep_part : (b : ℕ) (s t : List ℕ) → Part s t → Part (b ∷ s) (keep b t)
unfolding keep
keep_part b s [] p = go (white b) refl
  where
    go : (t : Bool) → white b ≡ t → Part (b ∷ s) (keep b [])
    go true w = rw (w, keep) (record { shorter = omega arith; passes = λ f e. refl })
    go false w = rw (w, keep) (record { shorter = omega arith; passes = λ f e. rw ((and-eq-true_iff (f b) (all f s)).0 e).0 })
keep_part b s (a ∷ t) p = record {
  shorter = omega (arith, p.shorter);
  passes = λ f e. let h = (and-eq-true_iff (f b) (all f s)).0 e in rw h.0 (p.passes f h.1);
}

end_part : (s : List ℕ) → Part s (trimmed_end s)
unfolding trimmed_end
end_part [] = record { shorter = omega arith; passes = λ f e. e }
end_part (b ∷ s) = keep_part b s (trimmed_end s) (end_part s)

trimmed_part : (s : List ℕ) → Part s (trimmed s)
unfolding trimmed
trimmed_part s =
    let a = start_part s in
    let b = end_part (trimmed_start s) in
    record { shorter = omega (arith, a.shorter, b.shorter); passes = λ f e. b.passes f (a.passes f e) }

module _ (body : List ℕ) (q : body_reply body ≡ accepted) where
  pub trimmed_body : body_reply (trimmed body) ≡ accepted
  trimmed_body =
      let p = trimmed_part body in
      let short = le-leb (length (trimmed body)) body_most (omega (arith, p.shorter, body_length body q)) in
      let low = must_held (all ascii body) 13 0 (then_second (must (leb (length body) body_most) 12 0) (must (all ascii body) 13 0) q) in
      rw (short, p.passes ascii low)

  -- so what is tried passes
  pub tried_body : (choice : Choice) → body_reply (tried_text choice body) ≡ accepted
  tried_body = by_choice (λ choice. body_reply (tried_text choice body) ≡ accepted) trimmed_body q q q q q q
