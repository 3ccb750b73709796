use Rattle.std.proofs.Common.{◌≡◌, rules, take}
use Rattle.std.specs.Int.Bits.{bit_xor}
use Rattle.std.specs.List.{fold}
use Rattle.verdict.proofs.AtRow.{odd-is}
use Rattle.verdict.proofs.row.odd.Goals as goal

pub returns : goal.returns
returns c =
    let sum : c.fold.result ≡ fold (λ s y. bit_xor s y) 0 (take c.args.c c.args.x.now) = search rules in
    odd-is c.args.c c.args.x.now _ _ sum c.requires c.parity.ensures
