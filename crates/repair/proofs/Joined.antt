-- What the program writes, run by run, are the parts and records of the whole input.
--     Run            a run as `fill` leaves it: its strips, the buffers as found and after, and how many bytes of each are written
--     sent_parts, sent_records     the bytes that are written
--     runs_joined    runs of whole strips and then the rest: what is written, one after the other, is the parts and records of all strips
use mathlib.Core.Path.{◌≡◌, refl, sym, ap, ap₂, ◌∙◌}
use Prim.Native.Nat.{ℕ, ◌≤◌}
use mathlib.Core.List.{List, [], ◌∷◌, ◌++◌, map, flatten}
use lib.ListN.{length, take}
use lib.Seq.{take_at}
use Rattle.meaning.specs.Limits.{largest_n}
use Rattle.meaning.specs.Stream.{n_of}
use Rattle.meaning.proofs.Cutting.{WholePieces}
use Rattle.strip_stream.specs.Strips.{strip_bytes, headers, parts}
use Rattle.strip_stream.proofs.Promise.{cut_headers, cut_parts}
use Rattle.repair.specs.Runs.{Filled}

pub record Run (s ch lost : List ℕ) : Type 0 where
  pub strips : List ℕ
  pub found_parts : List ℕ
  pub repaired : List ℕ
  pub found_records : List ℕ
  pub records : List ℕ
  pub part_bytes : ℕ
  pub record_bytes : ℕ
  pub fill : Filled s ch lost strips found_parts repaired found_records records part_bytes record_bytes

module _ {s ch lost : List ℕ} where
  abbrev pub sent_parts : Run s ch lost → List ℕ
  sent_parts r = take r.part_bytes r.repaired

  abbrev pub sent_records : Run s ch lost → List ℕ
  sent_records r = take r.record_bytes r.records

  -- the bytes of its parts and of its records
  parts_sent : (r : Run s ch lost) → sent_parts r ≡ flatten (parts s ch lost r.strips)
  parts_sent r = ap (take r.part_bytes) r.fill.parted ∙ take_at (flatten (parts s ch lost r.strips)) _ r.part_bytes (sym r.fill.parts_long)

  records_sent : (r : Run s ch lost) → sent_records r ≡ flatten (headers s ch lost r.strips)
  records_sent r = ap (take r.record_bytes) r.fill.headed ∙ take_at (flatten (headers s ch lost r.strips)) _ r.record_bytes (sym r.fill.records_long)

  all_sent : (sent : Run s ch lost → List ℕ) (g : List ℕ → List (List ℕ)) → ((r : Run s ch lost) → sent r ≡ flatten (g r.strips))
      → (runs : List (Run s ch lost)) → flatten (map sent runs) ≡ flatten (map (λ (w : List ℕ). flatten (g w)) (map (λ (r : Run s ch lost). r.strips) runs))
  unfolding flatten
  all_sent sent g e [] = refl
  all_sent sent g e (r ∷ runs) = ap₂ {C = List ℕ} ◌++◌ (e r) (all_sent sent g e runs)

  pub runs_joined : n_of s ≤ largest_n → length ch ≡ 2 → (runs : List (Run s ch lost)) (last : Run s ch lost) → WholePieces (strip_bytes (n_of s)) (map (λ (r : Run s ch lost). r.strips) runs)
      → (flatten (map sent_parts runs) ++ sent_parts last ≡ flatten (parts s ch lost (flatten (map (λ (r : Run s ch lost). r.strips) runs) ++ last.strips)))
      × (flatten (map sent_records runs) ++ sent_records last ≡ flatten (headers s ch lost (flatten (map (λ (r : Run s ch lost). r.strips) runs) ++ last.strips)))
  runs_joined h two runs last w =
      let ins : List (List ℕ) = map (λ (r : Run s ch lost). r.strips) runs in (
        ap₂ {C = List ℕ} ◌++◌ (all_sent sent_parts (parts s ch lost) parts_sent runs) (parts_sent last) ∙ sym (cut_parts s ch lost h two ins last.strips w),
        ap₂ {C = List ℕ} ◌++◌ (all_sent sent_records (headers s ch lost) records_sent runs) (records_sent last) ∙ sym (cut_headers s ch lost h two ins last.strips w),
      )
