use Rattle.sg_sets.proofs.PiecesLemmas.{piece-sound, piece-moves}
use Rattle.sg_sets.proofs.words.piece.Goals as goal

pub returns-clause-sound : goal.returns-clause-sound
returns-clause-sound c = piece-sound c.args.word c.args.from c.args.to c.args.count c.requires.to_room c.requires.from_room

pub returns-clause-moves : goal.returns-clause-moves
returns-clause-moves c = piece-moves c.args.word c.args.from c.args.to c.args.count c.requires.to_room c.requires.from_room
