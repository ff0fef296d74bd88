-- What a run tells, and how what it tells is put together
use Rattle.std.specs.Prelude.{ℕ, ◌+◌, List, [], ◌∷◌, ◌++◌, Option, Some, None, if◌then◌else◌}
use Rattle.sg_replies.specs.declared.reply.Reply.{Reply}
use Rattle.sg_replies.specs.Requests.{Request, fits}
use Rattle.sg_output.specs.declared.status.Status.{Status}
use Rattle.sg_output.specs.declared.status.Status.TheVariants.{Done}

-- what a run tells
pub record Output : Type 0 where
  -- what is written, each by one put
  pub blocks : List (List ℕ)
  -- how many equations are evaluated for each block of a command
  pub evs : List ℕ
  -- how it ends, where no reply is missing
  pub status : Option Status
  -- what the shelf is asked
  pub requests : List Request
  -- how many of the replies are taken
  pub taken : ℕ

-- the one and then the other
abbrev pub before : Output → Output → Output
before t u = record {
  blocks = t.blocks ++ u.blocks;
  evs = t.evs ++ u.evs;
  status = u.status;
  requests = t.requests ++ u.requests;
  taken = t.taken + u.taken;
}

-- the bytes of the blocks, one after another
abbrev pub joined : List (List ℕ) → List ℕ
joined [] = []
joined (block ∷ blocks) = block ++ joined blocks

-- a text that ends the run
abbrev pub text : Status → List ℕ → Output
text status bytes = record { blocks = bytes ∷ []; evs = []; status = Some status; requests = []; taken = 0 }

-- the end of the job
abbrev pub finished : Output
finished = record { blocks = []; evs = []; status = Some Done; requests = []; taken = 0 }

-- a request whose reply is missing
abbrev pub unfinished : Request → Output
unfinished request = record { blocks = []; evs = []; status = None; requests = request ∷ []; taken = 0 }

-- a request whose reply is taken
abbrev pub taking : Request → Output
taking request = record { blocks = []; evs = []; status = None; requests = request ∷ []; taken = 1 }

-- a request, and what follows the reply to it
abbrev pub asked : Request → (Reply → List Reply → Output) → List Reply → Output
asked request next [] = unfinished request
asked request next (reply ∷ replies) = if fits request reply then before (taking request)
    (next reply replies) else unfinished request
