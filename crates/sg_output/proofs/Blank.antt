-- Readers of which nothing is asked
use Rattle.sg_input.specs.Entered.{NoToken}
use Rattle.sg_saved.specs.Read.{FormAt}
use Rattle.sg_editor.specs.Ask.{Readers}

pub blank_readers : Readers
blank_readers = record { text = λ entry bytes. NoToken 0; file = λ bytes. FormAt 0 }
