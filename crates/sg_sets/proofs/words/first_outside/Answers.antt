use Rattle.std.proofs.Common.{◌<◌, ◌^◌, get_or, bit_and, arith}
use Rattle.std.specs.Int.{bit_not, w64}
use Rattle.std.proofs.lemmas.Nat.{and_le_l}
use Rattle.sg_sets.proofs.JoinedLemmas.{shared-none, shared-found, shared-least}
use Rattle.sg_sets.proofs.OutsideLemmas.{flipped, word-flipped, outside-shared, shared-outside, bit-below}
use Rattle.sg_sets.proofs.words.first_outside.Goals as goal

pub returns-then-left-ne0-clause-outside : goal.returns-then-left-ne0-clause-outside
returns-then-left-ne0-clause-outside c =
    let word = c.type_inv.words c.loop-k.k in
    let left = bit_and (get_or c.args.words.now c.loop-k.k 0) (bit_not w64 (get_or c.args.other.now c.loop-k.k 0)) in
    let fits : left < 2 ^ 64 = omega (arith, word, and_le_l (get_or c.args.words.now c.loop-k.k 0) (bit_not w64 (get_or c.args.other.now c.loop-k.k 0))) in
    let is = word-flipped c.args.words.now c.args.other.now c.loop-k.k (omega (arith, c.loop-k-test.true, c.requires.same)) in
    shared-outside c.args.words.now c.args.other.now c.type_inv.other c.requires.same _
    (shared-found c.args.words.now (flipped c.args.other.now) c.loop-k.k left is c.if-left-ne0.true fits)

pub returns-then-left-ne0-clause-least : goal.returns-then-left-ne0-clause-least
returns-then-left-ne0-clause-least c =
    let word = c.type_inv.words c.loop-k.k in
    let left = bit_and (get_or c.args.words.now c.loop-k.k 0) (bit_not w64 (get_or c.args.other.now c.loop-k.k 0)) in
    let fits : left < 2 ^ 64 = omega (arith, word, and_le_l (get_or c.args.words.now c.loop-k.k 0) (bit_not w64 (get_or c.args.other.now c.loop-k.k 0))) in
    let is = word-flipped c.args.words.now c.args.other.now c.loop-k.k (omega (arith, c.loop-k-test.true, c.requires.same)) in
    λ a out. shared-least c.args.words.now (flipped c.args.other.now) c.loop-k.k left is c.if-left-ne0.true fits c.loop-k.invariant a
    (outside-shared c.args.words.now c.args.other.now c.type_inv.other c.requires.same a out)

pub loop-k-preserved : goal.loop-k-preserved
loop-k-preserved c =
    let is = word-flipped c.args.words.now c.args.other.now c.loop-k.k (omega (arith, c.loop-k-test.true, c.requires.same)) in
    shared-none c.args.words.now (flipped c.args.other.now) c.loop-k.k _ is c.if-left-ne0.false c.loop-k.invariant

pub returns-clause-none : goal.returns-clause-none
returns-clause-none c = λ a out.
    let shared = outside-shared c.args.words.now c.args.other.now c.type_inv.other c.requires.same a out in
    c.loop-k.invariant a (omega (arith, bit-below c.args.words.now a out.0, c.loop-k-test.false)) shared
