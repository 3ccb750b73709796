use Rattle.std.proofs.Common.{◌≡◌, ◌≢◌, rules, arith, get_or, Some, None}
use borrow.Author.Tests.{tests}
use Rattle.std.proofs.lemmas.Iterator.{IsFirst-from_position, YieldsList-from_slice}
use Rattle.std.proofs.lemmas.Nat.Bits.{bit_at-trailing_zeros}
use Rattle.std.specs.Int.{w64}
use Rattle.lanes.proofs.Collecting.{lane-found, no-lane}
use Rattle.lanes.proofs.bad.first.Goals as goal

pub returns-in_err-k : goal.returns-in_err-k
returns-in_err-k c =
    let b = c.collect-bad.result in
    let none = IsFirst-from_position _ _ None (λ n. n ≢ 0) (λ n. n ≡ 0) c.in_err-k.ensures.ran (YieldsList-from_slice b cc) (λ x q k. search (rules, tests)) (λ x q k. search (rules, tests)) in
    let late = no-lane _ _ b c.collect-bad.ensures (λ i h. none i 0 (omega arith) (omega arith)) in
    let r : c.from_residual.result ≡ None = search rules in
    rw r late

pub returns : goal.returns
returns c =
    let b = c.collect-bad.result in
    let k = c.in_ok-k.k in
    let found = IsFirst-from_position _ _ (Some k) (λ n. n ≢ 0) (λ n. n ≡ 0) c.in_ok-k.ensures.ran (YieldsList-from_slice b cc) (λ x q k. search (rules, tests)) (λ x q k. search (rules, tests)) in
    let some = found.1 0 in
    let low = bit_at-trailing_zeros w64 (get_or b k 0) (omega (arith, some)) (search rules) in
    let at = lane-found _ _ b c.collect-bad.ensures k _ (omega (arith, found.0)) low.0 (λ i h. found.2 i 0 (omega arith) h) low.1 low.2 in
    (omega (arith, low.0, found.0), at)
