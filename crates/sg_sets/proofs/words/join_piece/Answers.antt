use Rattle.std.proofs.Common.{◌≡◌, ◌/◌, ◌∙◌, ap, subst, set}
use Rattle.std.specs.Prelude.{◌↔◌, ◌⊎◌, true}
use Rattle.std.proofs.lemmas.List.{set-get_or}
use Rattle.sg_sets.specs.Words.{bit, IsMovedBit}
use Rattle.sg_sets.proofs.PiecesLemmas.{piece-joins, piece-gained}
use Rattle.sg_sets.proofs.words.join_piece.Goals as goal

pub returns-then-joined-words-clause-joins : goal.returns-then-joined-words-clause-joins
returns-then-joined-words-clause-joins c = λ a.
    let all = piece-joins c.args.words.now c.args.other.now c.args.to c.args.from c.args.count c.piece-piece.result c.requires.to c.requires.to_room c.requires.from_room
    c.piece-piece.ensures.sound c.piece-piece.ensures.moves a in
    let same = ap (set c.args.words.now (c.args.to / 64)) c.if-joined-words.true ∙ set-get_or c.args.words.now (c.args.to / 64) 0 in
    subst (λ w. (bit w a ≡ true) ↔ ((bit c.args.words.now a ≡ true) ⊎ IsMovedBit c.args.other.now c.args.from c.args.to c.args.count a)) same all

pub returns-clause-joins : goal.returns-clause-joins
returns-clause-joins c =
    piece-joins c.args.words.now c.args.other.now c.args.to c.args.from c.args.count c.piece-piece.result c.requires.to c.requires.to_room c.requires.from_room
    c.piece-piece.ensures.sound c.piece-piece.ensures.moves

pub returns-clause-gained : goal.returns-clause-gained
returns-clause-gained c =
    piece-gained c.args.words.now c.args.other.now c.args.to c.args.from c.args.count c.piece-piece.result c.requires.to c.requires.to_room c.requires.from_room
    c.piece-piece.ensures.sound c.piece-piece.ensures.moves c.piece-piece.type_inv c.if-joined-words.false
