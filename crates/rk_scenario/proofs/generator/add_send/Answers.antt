use Rattle.std.proofs.Common.{◌≡◌, ◌++◌, ◌∷◌, [], ◌<◌, Some, codes, arith}
use Rattle.std.specs.Fmt.{styled_digits_output}
use Rattle.std.specs.String.{string_bytes}
use Rattle.rk_scenario.specs.Loads.{two_hex_digits, send_line}
use Rattle.rk_scenario.proofs.LoadLemmas.{padded_hex, appended}
use Rattle.rk_scenario.proofs.generator.add_send.Goals as goal

pub returns : goal.returns
unfolding send_line
returns c =
    let n = c.args.receiver in
    let byte : n < 256 = omega (arith, c.ranges.receiver.fits) in
    let hole = styled_digits_output c.in_radix.result c.laid_out.result in
    let hex : hole ≡ Some (two_hex_digits n) = rw c.laid_out.ensures (padded_hex n c.in_radix.result.base _ byte c.in_radix.ensures) in
    appended (string_bytes c.args.text.now) (string_bytes c.writeln.new.self) (codes "event.send 0x0a0100") (codes " 1" ++ 10 ∷ []) (two_hex_digits n) hole hex c.in_ok-writeln.ensures.bytes
