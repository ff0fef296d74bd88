use Rattle.std.proofs.Common.{◌≡◌, ◌∷◌, ◌<◌, ◌≤◌, length, arith, ap, false, refl, ◌∙◌, ◌++◌, []}
use Rattle.std.specs.Prelude.{nat_lt}
use Rattle.std.proofs.lemmas.Bool.{lt-ltb}
use Rattle.std.proofs.lemmas.Bool.Decides.{nat_tests}
use Rattle.sg_patterns.specs.Machine.{Ready, empty_frame}
use Rattle.sg_patterns.specs.Spelling.{deepest}
use Rattle.sg_patterns.proofs.Emitting.{length-outer_flags, fed-on, fed-off}
use Rattle.sg_patterns.proofs.reader.Reader.open.Goals as goal

pub returns-then-len-ge-DEEPEST : goal.returns-then-len-ge-DEEPEST
returns-then-len-ge-DEEPEST c m outer f h =
    let full : deepest ≤ length outer = omega (arith, ap length h.outside, length-outer_flags outer) in
    let off : nat_lt (length outer) deepest ≡ false = grind (arith, nat_tests) in
    fed-off (nat_lt (length outer) deepest) (Ready (f ∷ outer) empty_frame) _ off

pub returns : goal.returns
returns c m outer f h =
    let room : length outer < deepest = omega (arith, ap length h.outside, length-outer_flags outer) in
    fed-on (nat_lt (length outer) deepest) (Ready (f ∷ outer) empty_frame) _ (lt-ltb (length outer) deepest room) (record { at_mode = refl; outside = c.in_ok-push.ensures.items ∙ (λ i. h.outside i ++ h.inside i ∷ []); inside = refl; made = h.made })
