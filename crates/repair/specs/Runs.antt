-- A run of strips, and room for their parts and records.
--     run_strips     the strips of a run
--     Room          there is room for the parts and records of an input
--     Ready         what is known of a sheet, a choice and the room for a run
--     Filled        what is filled into the two buffers, and how many bytes
use Rattle.std.specs.Prelude.{◌≡◌, ℕ, ◌*◌, ◌≤◌, length, drop}
use mathlib.Core.List.{List, ◌++◌, flatten}
use Rattle.meaning.specs.Limits.{largest_n, head_bytes}
use Rattle.meaning.specs.Stream.{n_of}
use Rattle.strip_stream.specs.Strips.{strip_bytes, part_bytes, record_count, part_count, headers, parts}

unfoldable pub run_strips : ℕ
run_strips = 16

-- in buffers of l and m bytes
pub record Room (s ch strips : List ℕ) (l m : ℕ) : Type 0 where
  pub parts_fit : part_count s ch strips * part_bytes (n_of s) ≤ l
  pub records_fit : record_count s ch strips * head_bytes ≤ m

-- the sheet and the choice have a right length, and there is room for the strips, the parts and the records of a run
pub record Ready (s ch : List ℕ) (run l m : ℕ) : Type 0 where
  pub small : n_of s ≤ largest_n
  pub two : length ch ≡ 2
  pub strips : run ≡ run_strips * strip_bytes (n_of s)
  pub parts_fit : run_strips * part_bytes (n_of s) ≤ l
  pub records_fit : run_strips * head_bytes ≤ m

-- each buffer starts with the parts, or the records, of the strips, of k or j bytes, and goes on as found
pub record Filled (s ch lost strips found_parts repaired found_records records : List ℕ) (k j : ℕ) : Type 0 where
  pub parts_long : k ≡ length (flatten (parts s ch lost strips))
  pub parted : repaired ≡ flatten (parts s ch lost strips) ++ drop k found_parts
  pub records_long : j ≡ length (flatten (headers s ch lost strips))
  pub headed : records ≡ flatten (headers s ch lost strips) ++ drop j found_records
