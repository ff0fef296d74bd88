-- What a command says of itself.
use Rattle.std.specs.Prelude.{[], ◌++◌, codes}
use Rattle.std.specs.Fmt.{decimal}
use Rattle.sg_kinds.specs.Values.{Bytes}
use Rattle.sg_kinds.specs.declared.marks.FaultKind.{FaultKind}
use Rattle.sg_kinds.specs.declared.marks.FaultKind.TheVariants as kind
use Rattle.sg_script.specs.declared.message.Message.{Message}
use Rattle.sg_script.specs.declared.message.Message.TheVariants as message

-- why a result has no value
abbrev pub kind_text : FaultKind → Bytes
kind_text kind.Fuel = codes "fuel"
kind_text kind.Depth = codes "depth"
kind_text kind.Size = codes "size"
kind_text kind.Divide = codes "divide"
kind_text kind.Overflow = codes "overflow"
kind_text kind.NoMatch = codes "nomatch"
kind_text kind.Convert = codes "convert"

-- the words of each message, of some of them those before a number or a reason
abbrev pub words : Message → Bytes
words message.Fine = codes "ok"
words message.NoBuffer = codes "no buffer"
words message.NameInUse = codes "name in use"
words message.TooManyBuffers = codes "too many buffers"
words message.NoPlace = codes "no place"
words message.Unknown = codes "unknown"
words message.NoMatch = codes "no match"
words message.NotInList = codes "not in list"
words message.LastElement = codes "last element"
words message.ClipEmpty = codes "clip empty"
words message.Phylum = codes "phylum"
words message.NotEditable = codes "not editable"
words message.NoEntry = codes "no entry"
words (message.ByteAt k) = codes "byte at "
words (message.LexicalAt k) = codes "lexical at "
words (message.ParseAt k) = codes "parse at "
words (message.Result why) = codes "result "
words message.Size = codes "size"
words message.NoAlternate = codes "no alternate"
words message.NothingToUndo = codes "nothing to undo"
words message.NothingToRedo = codes "nothing to redo"
words message.InText = codes "in text"
words message.InRun = codes "in run"
words message.NotInText = codes "not in text"
words message.WriteFault = codes "write fault"
words message.ReadFault = codes "read fault"
words message.LongFile = codes "long file"
words (message.FormAt k) = codes "form at "
words message.TooManyFiles = codes "too many files"

-- the number or the reason behind them
abbrev pub detail : Message → Bytes
detail (message.ByteAt k) = decimal k
detail (message.LexicalAt k) = decimal k
detail (message.ParseAt k) = decimal k
detail (message.FormAt k) = decimal k
detail (message.Result why) = kind_text why
detail _ = []

abbrev pub message_text : Message → Bytes
message_text m = words m ++ detail m
