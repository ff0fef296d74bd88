-- One call of a shelf
use Rattle.std.specs.Prelude.{◌≡◌, ◌≤◌, ◌+◌, List, length, IsTrue}
use Rattle.sg_outside.specs.Shelf.{ShelfState}
use Rattle.sg_outside.specs.Count.{raised_by, answered_by, unanswered_once}
use Rattle.sg_replies.specs.declared.reply.Reply.{Reply}
use Rattle.sg_replies.specs.Requests.{Request, fits, Answers, files_after, failure, failures, Serves}
use Rattle.sg_replies.specs.Counts.{CallsOrOneMore}

-- the shelf was called once, by this request, and gave this reply
pub record Replied (request : Request) (reply : Reply) (old new : ShelfState) : Type 0 where
  pub kind : IsTrue (fits request reply)
  pub answers : Answers old.files request reply
  pub files : new.files ≡ files_after old.files request reply
  pub faults : raised_by (failure reply) old.faults ≤ new.faults
  pub later : old.faults ≤ new.faults
  pub calls : new.calls ≡ answered_by 1 old.calls

-- the shelf was called once, and had no memory
pub record Unanswered (old new : ShelfState) : Type 0 where
  pub files : new.files ≡ old.files
  pub later : old.faults ≤ new.faults
  pub calls : new.calls ≡ unanswered_once old.calls

-- the shelf was called once for each reply; these are its answers to the requests in turn, each failure counted
pub record Served (old : ShelfState) (requests : List Request) (replies : List Reply) (new : ShelfState) : Type 0 where
  pub files : Serves old.files requests replies new.files
  pub faults : raised_by (failures replies) old.faults ≤ new.faults
  pub later : old.faults ≤ new.faults
  pub calls : new.calls ≡ answered_by (length replies) old.calls

-- the same, but that the shelf may have been called for a last request without a reply too, and had no memory then
pub record ServedOrOneMore (old : ShelfState) (requests : List Request) (replies : List Reply)
    (new : ShelfState) : Type 0 where
  pub files : Serves old.files requests replies new.files
  pub faults : raised_by (failures replies) old.faults ≤ new.faults
  pub later : old.faults ≤ new.faults
  pub calls : CallsOrOneMore (length requests ≡ length replies + 1) (length replies) old.calls new.calls
