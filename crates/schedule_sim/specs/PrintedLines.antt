-- What a script prints: the events of its table, the answers of its calls, and chains; and the line of each.
use Rattle.std.specs.Prelude.{ℕ, List, [], ◌∷◌, ◌++◌, map, Vec, codes, decimal}
use Rattle.std.specs.List.{concat, flat_map}
use Rattle.intern_log.specs.declared.event.Event.{Event}
use Rattle.intern_log.specs.declared.event.Handle.{Handle}
use Rattle.intern_log.specs.declared.event.What.{What}
use Rattle.intern_log.specs.declared.event.What.TheVariants as what
use Rattle.atomic_step.specs.declared.answer.Answer.{Answer}
use Rattle.atomic_step.specs.declared.answer.Answer.TheVariants as answer

-- a handle is a slot, a point and a generation
abbrev pub handle_text : Handle → List (List ℕ)
handle_text h = decimal h.slot ∷ codes "." ∷ decimal h.generation ∷ []

-- the line of what a seat did
abbrev pub log_line : ℕ → List (List ℕ) → List ℕ
log_line seat did = concat (codes "log " ∷ decimal seat ∷ codes " " ∷ did ++ (codes "\n" ∷ []))

-- the visible events, and those of a slot, a level and a seed, have a line each; no other event has one
unfoldable pub event_line : ℕ → What → List ℕ
event_line seat (what.Create text h) = log_line seat (codes "create" ∷ codes " " ∷ text ∷ codes " " ∷ handle_text h)
event_line seat (what.Take text h) = log_line seat (codes "take" ∷ codes " " ∷ text ∷ codes " " ∷ handle_text h)
event_line seat (what.Found text h) = log_line seat (codes "found" ∷ codes " " ∷ text ∷ codes " " ∷ handle_text h)
event_line seat (what.Drop h) = log_line seat (codes "drop" ∷ codes " " ∷ handle_text h)
event_line seat (what.Perm h) = log_line seat (codes "perm" ∷ codes " " ∷ handle_text h)
event_line seat (what.Kill h) = log_line seat (codes "kill" ∷ codes " " ∷ handle_text h)
event_line seat (what.Unlink slot) = log_line seat (codes "unlink" ∷ codes " " ∷ decimal slot ∷ [])
event_line seat (what.Free slot) = log_line seat (codes "free" ∷ codes " " ∷ decimal slot ∷ [])
event_line seat (what.Level level) = log_line seat (codes "level" ∷ codes " " ∷ decimal level ∷ [])
event_line seat (what.Rehash seed) = log_line seat (codes "rehash" ∷ codes " " ∷ decimal seed ∷ [])
event_line seat (what.Claim slot) = []
event_line seat (what.Open counter) = []
event_line seat what.Close = []
event_line seat what.Grace = []
event_line seat (what.Lock row bucket) = []
event_line seat (what.Unlock row bucket) = []
event_line seat what.ResizeTaken = []
event_line seat what.ResizeGiven = []

-- the words of an answer; the last five are answers of no call of a script
unfoldable pub said_by : Answer → List ℕ
said_by (answer.Created h) = concat (codes "created" ∷ codes " " ∷ handle_text h)
said_by (answer.Taken h) = concat (codes "taken" ∷ codes " " ∷ handle_text h)
said_by (answer.Found h) = concat (codes "found" ∷ codes " " ∷ handle_text h)
said_by (answer.Hit h) = concat (codes "hit" ∷ codes " " ∷ handle_text h)
said_by answer.Miss = codes "miss"
said_by answer.Again = codes "again"
said_by answer.Locked = codes "locked"
said_by answer.NoSlot = codes "no slot"
said_by answer.TooLong = codes "too long"
said_by (answer.Dropped left) = codes "dropped " ++ decimal left
said_by answer.Permanent = codes "permanent"
said_by answer.MadePermanent = codes "made permanent"
said_by answer.Killed = codes "killed"
said_by answer.Stale = codes "stale"
said_by answer.Begun = codes "begun"
said_by answer.Busy = codes "busy"
said_by (answer.Spent counter) = codes "spent " ++ decimal counter
said_by (answer.AtMaximum level) = codes "at maximum " ++ decimal level
said_by (answer.AtMinimum level) = codes "at minimum " ++ decimal level
said_by (answer.PendingSeat seat) = codes "pending seat " ++ decimal seat
said_by (answer.PendingBucket row bucket) = concat (codes "pending bucket " ∷ decimal row ∷ codes " " ∷ decimal bucket ∷ [])
said_by (answer.Done w) = concat (codes "done unlinked " ∷ decimal w.unlinked ∷ codes " graces " ∷ decimal w.graces ∷ codes " level " ∷ decimal w.level ∷ [])
said_by (answer.Split number) = []
said_by answer.SeatsSpent = []
said_by (answer.Text length) = []
said_by answer.Ready = []
said_by (answer.Swept unlinked) = []

-- what is printed, in order: an event as it is made, an answer of a seat's call, the texts of a chain
pub data Printed : Type 0 where
  Tells : Event → Printed
  Answers : ℕ → Answer → Printed
  Shows : ℕ → ℕ → List (List ℕ) → Printed

unfoldable pub answer_line : ℕ → Answer → List ℕ
answer_line seat a = concat (decimal seat ∷ codes " " ∷ said_by a ∷ codes "\n" ∷ [])

-- each text after a blank
abbrev pub spaced : List (List ℕ) → List ℕ
spaced texts = flat_map (λ text. codes " " ++ text) texts

-- the bytes of some texts
abbrev pub texts_in : {Z : Type 0} → List (Vec ℕ Z) → List (List ℕ)
texts_in {Z} texts = map (λ (text : Vec ℕ Z). text.items) texts

abbrev pub chain_line : ℕ → ℕ → List (List ℕ) → List ℕ
chain_line row bucket texts = concat (codes "chain " ∷ decimal row ∷ codes " " ∷ decimal bucket ∷ codes ":" ∷ spaced texts ∷ codes "\n" ∷ [])

abbrev pub line_of : Printed → List ℕ
line_of (Tells e) = event_line e.seat e.what
line_of (Answers seat a) = answer_line seat a
line_of (Shows row bucket texts) = chain_line row bucket texts

abbrev pub lines_of : List Printed → List ℕ
lines_of items = flat_map line_of items

-- the events among what is printed
abbrev pub events_among : List Printed → List Event
events_among [] = []
events_among (Tells e ∷ items) = e ∷ events_among items
events_among (Answers seat a ∷ items) = events_among items
events_among (Shows row bucket texts ∷ items) = events_among items
