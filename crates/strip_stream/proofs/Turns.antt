-- What a turn of `each` leaves, over plain values.
--     reply, part, head     the reply to strip i, its part and its record
--     starts                strip i starts within the input
--     room_for              there is room for part i
use mathlib.Core.Path.{◌≡◌, ap}
use mathlib.Core.List.{List}
use Prim.Native.Nat.{ℕ, ◌+◌, ◌*◌, ◌≤◌, ◌<◌}
use native.Mathlib.Omega.{arith}
use Rattle.meaning.specs.Answers.{Reply}
use Rattle.meaning.specs.Stream.{header, piece_at, rounded_up}
use Rattle.meaning.proofs.Cutting.{begins}
use Rattle.stream.specs.declared.Terms.{Terms}
use Rattle.stream.proofs.Turns.{row_room}
use Rattle.strip_stream.specs.Strips.{strip_bytes, part_bytes, strip_reply}
use Rattle.strip_stream.proofs.Cases.{strip-pos}

-- the reply to strip i
abbrev pub reply : Terms → List ℕ → List ℕ → List ℕ → ℕ → Reply
reply t sheet lost input i = strip_reply t.n sheet t.r t.ceiling lost (piece_at (strip_bytes t.n) input i)

abbrev pub part : Terms → List ℕ → List ℕ → List ℕ → ℕ → List ℕ
part t sheet lost input i = (reply t sheet lost input i).bytes

abbrev pub head : Terms → List ℕ → List ℕ → List ℕ → ℕ → List ℕ
head t sheet lost input i = header (reply t sheet lost input i).answer

pub starts : (n length size i k : ℕ) → size ≡ strip_bytes n → k ≡ rounded_up length (strip_bytes n) → i < k → i * size < length
starts n length size i k e q h = begins length (strip_bytes n) size i k (strip-pos n) e q h

pub room_for : (n room i k l : ℕ) → room ≡ part_bytes n → i < k → k * part_bytes n ≤ l → i * room + room ≤ l
room_for n room i k l e h q = let same : k * room ≡ k * part_bytes n = ap (λ (t : ℕ). k * t) e in row_room i k room l h (omega (arith, same))
