use Rattle.std.proofs.Common.{◌<◌, ◌^◌, refl, get_or, bit_and, arith}
use Rattle.std.proofs.lemmas.Nat.{and_le_l}
use Rattle.sg_sets.proofs.JoinedLemmas.{shared-none, shared-found, shared-least}
use Rattle.sg_sets.proofs.words.first_shared.Goals as goal

pub returns-then-shared-ne0-clause-shared : goal.returns-then-shared-ne0-clause-shared
returns-then-shared-ne0-clause-shared c =
    let word = c.type_inv.words c.loop-k.k in
    let fits : bit_and (get_or c.args.words.now c.loop-k.k 0) (get_or c.args.other.now c.loop-k.k 0) < 2 ^ 64 =
    omega (arith, word, and_le_l (get_or c.args.words.now c.loop-k.k 0) (get_or c.args.other.now c.loop-k.k 0)) in
    shared-found c.args.words.now c.args.other.now c.loop-k.k _ refl c.if-shared-ne0.true fits

pub returns-then-shared-ne0-clause-least : goal.returns-then-shared-ne0-clause-least
returns-then-shared-ne0-clause-least c =
    let word = c.type_inv.words c.loop-k.k in
    let fits : bit_and (get_or c.args.words.now c.loop-k.k 0) (get_or c.args.other.now c.loop-k.k 0) < 2 ^ 64 =
    omega (arith, word, and_le_l (get_or c.args.words.now c.loop-k.k 0) (get_or c.args.other.now c.loop-k.k 0)) in
    shared-least c.args.words.now c.args.other.now c.loop-k.k _ refl c.if-shared-ne0.true fits c.loop-k.invariant

pub loop-k-preserved : goal.loop-k-preserved
loop-k-preserved c = shared-none c.args.words.now c.args.other.now c.loop-k.k _ refl c.if-shared-ne0.false c.loop-k.invariant
