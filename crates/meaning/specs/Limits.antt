-- The numbers that 01 fixes, and the bits that W-204 puts before the check, each in one place. The laws of this crate do not depend on
-- their values, but for the examples (proofs/Example, Bench) and what is said of the check's ones (proofs/Ones, Stuck).
--     largest_n          N = 2 ^ n symbols, n from 0 to this
--     mask_bytes         bytes of a record's mask
--     record_bytes       bytes of a record of the sheet: 4, then the mask
--     Layout            how sheets are laid out; `layout` is today's, `oldLayout` the one before W-206, which is only converted
--     old_largest_n, old_mask_bytes, old_record_bytes     the numbers of that one
--     largest_ceiling    the ceiling on unknowns is 0 to this
--     head_bytes         bytes of an answer record before its strips
--     strip_width        bytes of a strip in an answer record
--     leads r           the bits that stand before the free bits when the check divides: r ones
use Rattle.std.specs.Prelude.{ℕ, ◌+◌, Bool, true, List, replicate}

unfoldable pub largest_n : ℕ
largest_n = 9

unfoldable pub mask_bytes : ℕ
mask_bytes = 64

unfoldable pub record_bytes : ℕ
unfolding mask_bytes
record_bytes = 4 + mask_bytes

-- ---- layouts: n from 0 to `largest`; records of `bytes` bytes, of which the last `mask` are the mask

pub record Layout : Type 0 where
  pub largest : ℕ
  pub mask : ℕ
  pub bytes : ℕ

abbrev pub layout : Layout
layout = record { largest = largest_n; mask = mask_bytes; bytes = record_bytes }

unfoldable pub old_largest_n : ℕ
old_largest_n = 7

unfoldable pub old_mask_bytes : ℕ
old_mask_bytes = 16

unfoldable pub old_record_bytes : ℕ
unfolding old_mask_bytes
old_record_bytes = 4 + old_mask_bytes

abbrev pub old_layout : Layout
old_layout = record { largest = old_largest_n; mask = old_mask_bytes; bytes = old_record_bytes }

-- ---- answers

unfoldable pub largest_ceiling : ℕ
largest_ceiling = 255

unfoldable pub head_bytes : ℕ
head_bytes = 16

unfoldable pub strip_width : ℕ
strip_width = 512

unfoldable pub leads : ℕ → List Bool
leads r = replicate r true
