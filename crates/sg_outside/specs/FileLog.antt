-- Files in memory, the newest first
use Rattle.std.specs.Prelude.{List, ℕ, map, string_bytes}
use Rattle.std.specs.FinMap.{from_entries}
use Rattle.sg_outside.specs.declared.file_log.File.{File}
use Rattle.sg_outside.specs.Shelf.{Files}

-- a file as the pair of its name and its bytes
abbrev pub entry_of : File → List ℕ × List ℕ
entry_of file = (string_bytes file.name, file.bytes.items)

-- of several files of one name the first, which is the newest, counts
abbrev pub files_of : List File → Files
files_of files = from_entries (map entry_of files)
