-- How a whole input is answered.
use Rattle.std.specs.Prelude.{◌≡◌, ℕ, ◌+◌, ◌-◌, ◌^◌, ◌<◌, ◌||◌, min, Bool, true, false, List, [], ◌∷◌, ◌++◌, length, Option, None, if◌then◌else◌}
use Rattle.std.specs.Io.KnownBytes.{Appends}
use Rattle.std.specs.Str.Lines.{lines, strip_carriage_return}
use Rattle.vecbench_lines.specs.declared.fault.Fault.{Fault}
use Rattle.vecbench_lines.specs.declared.serve.Session.{Session}
use Rattle.vecbench_lines.specs.Parts.{words_of}
use Rattle.vecbench_lines.specs.Fault.{fault_line}
use Rattle.vecbench_lines.specs.Judged.{fault_in_words, IsFault}
use Rattle.vecbench_lines.specs.Answers.{AnswersWords}

-- the reply is what line `number` gets: its answer, or the line of its fault
abbrev pub IsReply : ℕ → List ℕ → List ℕ → Bool → Type 0
IsReply number line reply false = (fault_in_words (words_of line) ≡ None) × AnswersWords (words_of line) reply
IsReply number line reply true = (fault : Fault) × IsFault (fault_in_words (words_of line)) fault × (reply ≡ fault_line number fault)

-- how many of n lines are counted
abbrev pub counted : ℕ → ℕ
counted n = min n (2 ^ 64 - 1)

-- the text is the replies to these lines, in order, after n other lines, and tells whether one of
-- them has a fault
abbrev pub AreReplies : ℕ → List (List ℕ) → List ℕ → Bool → Type 0
AreReplies n [] text faulty = (text ≡ []) × (faulty ≡ false)
AreReplies n (line ∷ lines) text faulty =
    (reply : List ℕ) × (others : List ℕ) × (this : Bool) × (later : Bool) × IsReply (counted (n + 1)) line reply this × AreReplies (n + 1) lines others later
    × (text ≡ reply ++ others) × (faulty ≡ (this || later))

-- the text was answered, where a run ended with this status: the replies to its lines were written, and nothing else
abbrev pub IsServed : List ℕ → Option (List ℕ) → Option (List ℕ) → ℕ → Type 0
IsServed text old new status =
    (replies : List ℕ) × (faulty : Bool) × AreReplies 0 (lines text) replies faulty × Appends old new replies × (status ≡ (if faulty then 1 else 0))

-- the session has replied to these lines, and nothing else was written since `old`
pub record Progress (lines : List (List ℕ)) (old new : Option (List ℕ)) (s : Session) : Type 0 where
  pub text : List ℕ
  pub replies : AreReplies 0 lines text s.has_fault
  pub count : s.lines ≡ counted (length lines)
  pub written : Appends old new text

-- what was taken of a line is in the session, if there was memory for it
abbrev pub Holds : Session → List ℕ → Type 0
Holds s taken = s.is_stored ≡ true → s.line.items ≡ taken

-- and where there was none, something was taken
abbrev pub MissesSome : Session → List ℕ → Type 0
MissesSome s taken = s.is_stored ≡ false → 0 < length taken

-- the lines that end between the parts, where `line` is before the first
abbrev pub ended_lines : List ℕ → List (List ℕ) → List (List ℕ)
ended_lines line [] = []
ended_lines line (part ∷ parts) = strip_carriage_return line ∷ ended_lines part parts

-- the last of a line and the parts after it
abbrev pub last_part : List ℕ → List (List ℕ) → List ℕ
last_part line [] = line
last_part line (part ∷ parts) = last_part part parts

-- the lines that end in a text with these parts, whose first line begins with what was taken
abbrev pub ended_in : List ℕ → List (List ℕ) → List (List ℕ)
ended_in taken [] = []
ended_in taken (part ∷ parts) = ended_lines (taken ++ part) parts

-- what is left of the line that does not end in it
abbrev pub left_of : List ℕ → List (List ℕ) → List ℕ
left_of taken [] = taken
left_of taken (part ∷ parts) = last_part (taken ++ part) parts

-- the session replied to `lines`, and has taken `taken` of the next
pub record Stands (lines : List (List ℕ)) (taken : List ℕ) (old new : Option (List ℕ)) (s : Session) : Type 0 where
  pub progress : Progress lines old new s
  pub holds : Holds s taken
  pub misses : MissesSome s taken
