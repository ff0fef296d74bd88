use Rattle.std.proofs.Common.{subst}
use Rattle.sg_editor.specs.Ask.{AreReaders, Readers}
use Rattle.sg_editor.specs.Editing.{Setting}
use Rattle.sg_editor.proofs.Telling.{readers_there}
use Rattle.sg_editor.proofs.base.Base.readers.Goals as goal

pub returns : goal.returns
returns c =
    let b = c.self.inside in
    let l = c.self.invariant.0 in
    subst (λ (s : Setting). (r : Readers) × AreReaders s.contents.spec r) c.self.view_is
    (readers_there b.attribution.value.spec l.sound b.lexemes l.lexemes b.tables l.tables c.sound.ensures c.decided.ensures)
