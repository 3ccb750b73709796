use mathlib.Core.Path.{◌≡◌, ap, ◌∙◌}
use mathlib.Core.List.{List, ◌++◌}
use Prim.Native.Nat.{ℕ, ◌-◌, ◌≤◌}
use native.Mathlib.Omega.{arith}
use lib.ListN.{length, replicate, length-replicate}
use Rattle.std.specs.Fmt.{decimal}
use Rattle.show.proofs.Writing.{◌then◌, spelt}
use Rattle.show.proofs.Decimal.{few, wide_is}
use Rattle.show.proofs.text.put_number.Goals as goal

pub returns : goal.returns
returns c =
    let d = c.as_bytes-digits.result.now in
    let e : d ≡ decimal c.args.n = c.as_bytes-digits.ensures.value ∙ c.format.ensures.text in
    let k : length d ≤ 20 = rw e (few c.args.n (omega arith)) in
    let p = c.pad-start.ensures in
    let q = c.put.ensures in (
      spelt (p then q) (ap (λ (t : List ℕ). replicate (c.args.width - length t) 32 ++ t) e ∙ wide_is c.args.width c.args.n (omega arith)),
      omega (arith, length-replicate {A = ℕ} (c.args.width - length d) 32, p.ends, q.ends, k, c.requires),
    )
