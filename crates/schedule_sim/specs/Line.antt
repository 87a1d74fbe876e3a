-- The lines of a script behind its opening: what each writes, and which are of the form.
use Rattle.std.specs.Prelude.{◌≡◌, ◌≢◌, ℕ, ◌^◌, ◌<◌, ◌≤◌, List, [], ◌∷◌, ◌++◌, length, All, codes, decimal}
use Rattle.atomic_step.specs.declared.access.StepKind.{StepKind}
use Rattle.atomic_step.specs.declared.access.StepKind.TheVariants.{K1, K2, K3, K4, K5, K6, K7, K8, K9, K10, K11, K12, K13, K14, K15, K16, K17, K18, K19, K20, K21, K22, K23, K24, K25, K26}
use Rattle.intern_log.specs.declared.event.Kind.{Kind}
use Rattle.intern_log.specs.declared.event.Kind.TheVariants.{Counted, Weak}
use Rattle.schedule_sim.specs.declared.script.Line.{Line}
use Rattle.schedule_sim.specs.declared.script.Line.TheVariants as lines
use Rattle.schedule_sim.specs.declared.script.Asked.{Asked}
use Rattle.schedule_sim.specs.declared.script.Asked.TheVariants as calls
use Rattle.schedule_sim.specs.Parts.{parts_at}

-- the number of a kind of step
abbrev pub kind_number : StepKind → ℕ
kind_number K1 = 1
kind_number K2 = 2
kind_number K3 = 3
kind_number K4 = 4
kind_number K5 = 5
kind_number K6 = 6
kind_number K7 = 7
kind_number K8 = 8
kind_number K9 = 9
kind_number K10 = 10
kind_number K11 = 11
kind_number K12 = 12
kind_number K13 = 13
kind_number K14 = 14
kind_number K15 = 15
kind_number K16 = 16
kind_number K17 = 17
kind_number K18 = 18
kind_number K19 = 19
kind_number K20 = 20
kind_number K21 = 21
kind_number K22 = 22
kind_number K23 = 23
kind_number K24 = 24
kind_number K25 = 25
kind_number K26 = 26

-- what a kind of step writes, and a handle, with a point between its numbers
abbrev pub kind_word : StepKind → List ℕ
kind_word kind = codes "K" ++ decimal (kind_number kind)

abbrev pub handle_word : ℕ → ℕ → List ℕ
handle_word slot generation = decimal slot ++ 46 ∷ decimal generation

-- the parts that a call writes behind its seat
abbrev pub asked_parts : Asked → List (List ℕ)
asked_parts (calls.Intern text) = codes "intern" ∷ text.items ∷ []
asked_parts (calls.Lookup text) = codes "lookup" ∷ text.items ∷ []
asked_parts (calls.Drop slot generation) = codes "drop" ∷ handle_word slot generation ∷ []
asked_parts (calls.Permanent slot generation) = codes "permanent" ∷ handle_word slot generation ∷ []
asked_parts (calls.Kill slot generation) = codes "kill" ∷ handle_word slot generation ∷ []
asked_parts calls.Clean = codes "clean" ∷ []
asked_parts calls.Grow = codes "grow" ∷ []
asked_parts calls.Shrink = codes "shrink" ∷ []
asked_parts calls.Poll = codes "poll" ∷ []

-- the parts that a line writes
abbrev pub line_parts : Line → List (List ℕ)
line_parts (lines.Call seat asked) = codes "call" ∷ decimal seat ∷ asked_parts asked
line_parts (lines.Step seat steps) = codes "step" ∷ decimal seat ∷ decimal steps ∷ []
line_parts (lines.Until seat kind) = codes "until" ∷ decimal seat ∷ kind_word kind ∷ []
line_parts (lines.Run seat) = codes "run" ∷ decimal seat ∷ []
line_parts (lines.Chain row bucket) = codes "chain" ∷ decimal row ∷ decimal bucket ∷ []
line_parts lines.Rehash = codes "rehash" ∷ []

-- a number of a line
abbrev pub IsNumber : ℕ → Type 0
IsNumber n = n < 2 ^ 64

-- a text of a line: one or more bytes from 33 to 126
abbrev pub IsText : List ℕ → Type 0
IsText bytes = (1 ≤ length bytes) × All (λ b. (33 ≤ b) × (b ≤ 126)) bytes

-- a handle of a line, in a table of the one kind that has the call
abbrev pub IsHandleIn : Kind → Kind → ℕ → ℕ → Type 0
IsHandleIn wanted kind slot generation = (kind ≡ wanted) × IsNumber slot × IsNumber generation

-- the call may be asked for in a table of the kind
abbrev pub IsAskedIn : Kind → Asked → Type 0
IsAskedIn kind (calls.Intern text) = IsText text.items
IsAskedIn kind (calls.Lookup text) = IsText text.items
IsAskedIn kind (calls.Drop slot generation) = IsHandleIn Counted kind slot generation
IsAskedIn kind (calls.Permanent slot generation) = IsHandleIn Counted kind slot generation
IsAskedIn kind (calls.Kill slot generation) = IsHandleIn Weak kind slot generation
IsAskedIn kind _ = Unit {0}

-- the line may stand in a script of a table of the kind
abbrev pub IsLineIn : Kind → Line → Type 0
IsLineIn kind (lines.Call seat asked) = IsNumber seat × IsAskedIn kind asked
IsLineIn kind (lines.Step seat steps) = IsNumber seat × (1 ≤ steps) × (steps ≤ 1048576)
IsLineIn kind (lines.Until seat _) = IsNumber seat
IsLineIn kind (lines.Run seat) = IsNumber seat
IsLineIn kind (lines.Chain row bucket) = IsNumber row × IsNumber bucket
IsLineIn kind lines.Rehash = Unit {0}

-- the parts are those of the line, and it may stand in a script of a table of the kind
abbrev pub AreLine : Kind → List (List ℕ) → Line → Type 0
AreLine kind parts line = (parts ≡ line_parts line) × IsLineIn kind line

-- the same of a call
abbrev pub AreAsked : Kind → List (List ℕ) → Asked → Type 0
AreAsked kind parts asked = (parts ≡ asked_parts asked) × IsAskedIn kind asked

-- no call of the name stands before a handle, in a table of the kind
abbrev pub IsNoHandleCall : Kind → List ℕ → Type 0
IsNoHandleCall Counted name = (name ≢ codes "drop") × (name ≢ codes "permanent")
IsNoHandleCall Weak name = name ≢ codes "kill"

-- the bytes are those of the line
abbrev pub IsLine : Kind → List ℕ → Line → Type 0
IsLine kind bytes line = AreLine kind (parts_at 32 bytes) line

-- the bytes are those of some line
abbrev pub IsOfForm : Kind → List ℕ → Type 0
IsOfForm kind bytes = (line : Line) × IsLine kind bytes line
