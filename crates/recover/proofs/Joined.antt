-- What the program writes, run by run, are the records of the whole input.
--     Run            a run as `fill` leaves it: its words, the output as found and after, and how many bytes are written
--     sent           the bytes that are written
--     runs_joined    runs of whole words and then the rest: what is written, one after the other, is the records of all words
use mathlib.Core.Path.{◌≡◌, refl, sym, ap, ap₂, ◌∙◌}
use Prim.Native.Nat.{ℕ, ◌^◌, ◌≤◌}
use mathlib.Core.List.{List, [], ◌∷◌, ◌++◌, map, flatten}
use lib.ListN.{length, take}
use lib.Seq.{take_at}
use Rattle.meaning.specs.Limits.{largest_n}
use Rattle.meaning.specs.Stream.{n_of, records}
use Rattle.stream.proofs.Promise.{WholeWords, cut_bytes}
use Rattle.recover.specs.Runs.{Filled}

pub record Run (s ch : List ℕ) : Type 0 where
  pub words : List ℕ
  pub found : List ℕ
  pub out : List ℕ
  pub bytes : ℕ
  pub fill : Filled s ch words found out bytes

module _ {s ch : List ℕ} where
  abbrev pub sent : Run s ch → List ℕ
  sent r = take r.bytes r.out

  -- the bytes of its records
  sent_is : (r : Run s ch) → sent r ≡ flatten (records s ch r.words)
  sent_is r = ap (take r.bytes) r.fill.filled ∙ take_at (flatten (records s ch r.words)) _ r.bytes (sym r.fill.bytes)

  all_sent : (runs : List (Run s ch)) → flatten (map sent runs) ≡ flatten (map (λ (w : List ℕ). flatten (records s ch w)) (map (λ (r : Run s ch). r.words) runs))
  unfolding flatten
  all_sent [] = refl
  all_sent (r ∷ runs) = ap₂ {C = List ℕ} ◌++◌ (sent_is r) (all_sent runs)

  pub runs_joined : n_of s ≤ largest_n → length ch ≡ 2 → (runs : List (Run s ch)) (last : Run s ch) → WholeWords (2 ^ n_of s) (map (λ (r : Run s ch). r.words) runs)
      → flatten (map sent runs) ++ sent last ≡ flatten (records s ch (flatten (map (λ (r : Run s ch). r.words) runs) ++ last.words))
  runs_joined h two runs last w = ap₂ {C = List ℕ} ◌++◌ (all_sent runs) (sent_is last) ∙ sym (cut_bytes s ch h two (map (λ (r : Run s ch). r.words) runs) last.words w)
