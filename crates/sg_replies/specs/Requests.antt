-- Requests to a shelf, and the replies to them
use Rattle.std.specs.Prelude.{◌≡◌, ◌+◌, ℕ, List, [], ◌∷◌, Bool, true, false, IsTrue}
use Rattle.sg_outside.specs.Shelf.{KnownFiles, Fetches, kept}
use Rattle.sg_replies.specs.declared.reply.Reply.{Reply}
use Rattle.sg_replies.specs.declared.reply.Reply.TheVariants.{Fetched, FetchFailed, Kept, KeepFailed}

-- a fetch of at most so many bytes of a file, or a keep of bytes under a name
pub data Request : Type 0 where
  Fetch : List ℕ → ℕ → Request
  Keep : List ℕ → List ℕ → Request

-- whether the reply is of the request's kind
abbrev pub fits : Request → Reply → Bool
fits (Fetch name most) (Fetched bytes) = true
fits (Fetch name most) FetchFailed = true
fits (Fetch name most) Kept = false
fits (Fetch name most) KeepFailed = false
fits (Keep name bytes) Kept = true
fits (Keep name bytes) KeepFailed = true
fits (Keep name bytes) (Fetched other) = false
fits (Keep name bytes) FetchFailed = false

-- what a shelf of these files may reply: fetched bytes are the front of that file, where the files are known
abbrev pub Answers : KnownFiles → Request → Reply → Type 0
Answers files (Fetch name most) (Fetched bytes) = Fetches files name most bytes
Answers files request reply = Unit {0}

-- the files after this reply: only bytes that were kept change them
abbrev pub files_after : KnownFiles → Request → Reply → KnownFiles
files_after files (Keep name bytes) Kept = kept files name bytes
files_after files request reply = files

-- these replies serve these requests in turn, each of its request's kind, and take the files from old to new; a last
-- request may be without a reply
abbrev pub Serves : KnownFiles → List Request → List Reply → KnownFiles → Type 0
Serves old [] [] new = new ≡ old
Serves old (request ∷ []) [] new = new ≡ old
Serves old (request ∷ next ∷ requests) [] new = ⊥
Serves old [] (reply ∷ replies) new = ⊥
Serves old (request ∷ requests) (reply ∷ replies) new =
    IsTrue (fits request reply) × Answers old request reply
    × Serves (files_after old request reply) requests replies new

-- whether the reply is a failure, as a number
abbrev pub failure : Reply → ℕ
failure (Fetched bytes) = 0
failure FetchFailed = 1
failure Kept = 0
failure KeepFailed = 1

-- how many of the replies are failures
abbrev pub failures : List Reply → ℕ
failures [] = 0
failures (reply ∷ replies) = failure reply + failures replies

-- the bytes that a reply brought
abbrev pub bytes_in : Reply → List ℕ
bytes_in (Fetched bytes) = bytes
bytes_in reply = []
