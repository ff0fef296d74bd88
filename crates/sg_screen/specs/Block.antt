-- What a command prints: a header, and the lines of a page that stand in the window.
use Rattle.std.specs.Prelude.{ℕ, ◌-◌, nat_eq, if◌then◌else◌, ◌++◌, List, take, drop, flat_map, codes, Option, Some, None, option_map}
use Rattle.std.specs.Fmt.{decimal}
use Rattle.sg_kinds.specs.Values.{Bytes}
use Rattle.sg_unparse.specs.Page.{Position, Region}
use Rattle.sg_unparse.specs.Sheet.{as_region}
use Rattle.sg_script.specs.declared.message.Message.{Message}
use Rattle.sg_screen.specs.declared.blocks.Head.{Head as Given}
use Rattle.sg_script.specs.Message.{message_text}

-- what a header tells: the buffer's name and that of the view in which it is shown, where that is not the ordinary one;
-- the region of what is selected, its phylum's name and how many elements of a list are selected, or 1; the first line in
-- the window, how many equations were evaluated, and the message
pub record Head : Type 0 where
  pub name : Bytes
  pub view : Option Bytes
  pub region : Region
  pub phylum : Bytes
  pub count : ℕ
  pub top : ℕ
  pub ev : ℕ
  pub message : Message

-- what a head of the code tells
abbrev pub head_of : Given → Head
head_of h = record {
  name = h.name.now;
  view = option_map (λ v. v.now) h.view;
  region = as_region h.region;
  phylum = h.phylum.now;
  count = h.count;
  top = h.top;
  ev = h.ev;
  message = h.message;
}

-- `L:C`
abbrev pub position_text : Position → Bytes
position_text p = decimal p.line ++ codes ":" ++ decimal p.column

-- `L:C-L:C`, the first cell and the last
abbrev pub region_text : Region → Bytes
region_text r = position_text r.first ++ codes "-" ++ position_text r.last

-- `PHYLUM`, and where several elements are selected `PHYLUM*COUNT`
abbrev pub phylum_text : (phylum : Bytes) → (count : ℕ) → Bytes
phylum_text phylum count = if nat_eq count 1 then phylum else phylum ++ codes "*" ++ decimal count

-- `B`, and in a view `B/VIEW`
abbrev pub name_text : (name : Bytes) → (view : Option Bytes) → Bytes
name_text name None = name
name_text name (Some view) = name ++ codes "/" ++ view

-- `= B L:C-L:C PHYLUM top T ev N MESSAGE`, in three parts
abbrev pub selected_text : Head → Bytes
selected_text h =
    codes "= " ++ name_text h.name h.view ++ codes " " ++ region_text h.region ++ codes " " ++ phylum_text h.phylum h.count

abbrev pub counts_text : (top ev : ℕ) → Bytes
counts_text top ev = codes " top " ++ decimal top ++ codes " ev " ++ decimal ev

abbrev pub ending : Message → Bytes
ending message = codes " " ++ message_text message ++ codes "\n"

abbrev pub header : Head → Bytes
header h = selected_text h ++ counts_text h.top h.ev ++ ending h.message

-- a line in the window: at most its first bytes, as many as the window has columns
abbrev pub shown_line : (width : ℕ) → Bytes → Bytes
shown_line width line = codes "|" ++ take width line ++ codes "\n"

-- the lines in the window: at most as many as it has, from the top on, which is counted from 1
abbrev pub shown_lines : (top width height : ℕ) → List Bytes → Bytes
shown_lines top width height lines = flat_map (shown_line width) (take height (drop (top - 1) lines))

-- the block of a command, by the lines of the page
abbrev pub block : Head → List Bytes → (width height : ℕ) → Bytes
block h lines width height = header h ++ shown_lines h.top width height lines

-- the block of a command after which no buffer is current: `= - ev 0 MESSAGE`
abbrev pub bare : Message → Bytes
bare message = codes "= - ev 0" ++ ending message
