-- What a try call has found out of its window so far, and why it answers as it does.
use Rattle.std.specs.Prelude.{◌≡◌, ℕ, ◌+◌, ◌<◌, ◌≤◌, ◌⊎◌, true, false, List, [], ◌∷◌, ◌++◌, length, Some, None}
use Rattle.std.specs.List.{filter}
use Rattle.marked_word.specs.Head.{is_locked, is_redirected, first_of}
use Rattle.marked_word.specs.Link.{node_of}
use Rattle.intern_log.specs.declared.event.Entry.{Entry}
use Rattle.intern_log.specs.declared.event.Event.{Event}
use Rattle.intern_log.specs.declared.event.Handle.{Handle}
use Rattle.intern_log.specs.declared.event.Kind.{Kind}
use Rattle.intern_log.specs.declared.event.Kind.TheVariants.{Counted, Weak}
use Rattle.intern_log.specs.declared.event.What.{What}
use Rattle.intern_log.specs.declared.event.What.TheVariants as what
use Rattle.intern_log.specs.Buckets.{bucket_of}
use Rattle.intern_log.specs.CauseEvents.{IsVisibleOn, IsCreateUnlinkOrLockOn}
use Rattle.intern_log.specs.Log.{map_of}
use Rattle.intern_log.specs.Now.{Now, Vacant}
use Rattle.intern_log.specs.Own.{is_visible}
use Rattle.intern_log.specs.Sections.{IsCreatedAs}
use Rattle.intern_log.specs.TextMap.{TextMap, entry_of, IsLive}
use Rattle.atomic_step.specs.Count.{handle_at, holds_word}
use Rattle.atomic_step.specs.declared.answer.Answer.{Answer}
use Rattle.atomic_step.specs.declared.answer.Answer.TheVariants as answer
use Rattle.atomic_step.specs.declared.count.Change.{Change}
use Rattle.atomic_step.specs.declared.count.Change.TheVariants as change
use Rattle.atomic_step.specs.Monitor.{after_all, section, slot}
use Rattle.call_machine.specs.CallClaims.{claims_in, may_claim}
use Rattle.call_machine.specs.CallEvents.{then_of, stands_for, made_of, IsOfCall}
use Rattle.call_machine.specs.CallSections.{is_inside, claimed_slot}
use Rattle.call_machine.specs.declared.find.FindStage.TheVariants as find
use Rattle.call_machine.specs.declared.find.Walk.{Walk}
use Rattle.call_machine.specs.declared.handle.HandleStage.TheVariants as handle
use Rattle.call_machine.specs.declared.insert.InsertStage.TheVariants as insert
use Rattle.call_machine.specs.declared.leave.Then.{Then}
use Rattle.call_machine.specs.declared.leave.Then.TheVariants as next
use Rattle.call_machine.specs.declared.node.NodeStage.TheVariants as node
use Rattle.call_machine.specs.declared.stage.Along.{Along}
use Rattle.call_machine.specs.declared.stage.Asked.{Asked}
use Rattle.call_machine.specs.declared.stage.CallStage.{CallStage}
use Rattle.call_machine.specs.declared.stage.CallStage.TheVariants as stage
use Rattle.call_machine.specs.declared.stage.Calling.{Calling}
use Rattle.call_machine.specs.declared.stage.Goal.{Goal}
use Rattle.call_machine.specs.declared.stage.Goal.TheVariants.{Lookup, Intern, InternWait}
use Rattle.cht_core.specs.declared.table.Table.{Table}
use Rattle.cht_core.specs.Causes.{now_in, IsRowOf, IsRowIn}
use Rattle.cht_core.specs.Flow.{Flow, IsUsed}
use Rattle.cht_core.specs.Past.{Past, past_of}
use Rattle.cht_core.specs.Search.{IsLate, IsSeenWith}
use Rattle.cht_core.specs.Windows.{Somewhere, Another, AnotherSince, WasSince, whats_by}

-- what a try call is: a walk for a text, a change of a handle's count, a reading of a handle's text, or a split
pub data Way : Type 0 where
  Walks : Way
  Changes : Change → Way
  Reads : Way
  Splits : Way

-- the text is live with this handle and this count
abbrev pub HasCount : TextMap → List ℕ → Handle → ℕ → Type 0
HasCount m text h count = entry_of m text ≡ Some (record { handle = h; count = count })

-- the word is the count word of the text's live entry, which has this handle
abbrev pub IsWordOf : List ℕ → Handle → ℕ → List Event → Type 0
IsWordOf text h word log = (count : ℕ) × HasCount (map_of log) text h count × (word ≡ holds_word h count)

-- the text is absent; no entry has the handle; the slot is taken
abbrev pub IsAbsent : List ℕ → List Event → Type 0
IsAbsent text log = entry_of (map_of log) text ≡ None

abbrev pub IsGone : Handle → List Event → Type 0
IsGone h log = ¬ (IsLive (map_of log) h)

abbrev pub IsTaken : Table → ℕ → List Event → Type 0
IsTaken t slot log = ¬ ((now_in t log).slot slot ≡ Vacant)

-- the bucket of a text in a row, and whether it is locked in one to which callers may come
abbrev pub home_of : Now → ℕ → List ℕ → ℕ
home_of n row text = bucket_of n.seed row text

abbrev pub IsTextLocked : Table → List ℕ → List Event → Type 0
IsTextLocked t text log = (row : ℕ) × IsRowIn t row log × ((k : ℕ) × ((now_in t log).lock row (home_of (now_in t log) row text) ≡ Some k))

-- the event is on the handle; it is a Create, an Unlink or a Lock on the bucket of the text in a row
abbrev pub IsOnHandle : Handle → List Event → What → Type 0
IsOnHandle h log e = IsVisibleOn h e

abbrev pub IsOnHome : Table → ℕ → List ℕ → List Event → What → Type 0
IsOnHome t row text log e = IsCreateUnlinkOrLockOn (now_in t log) row (home_of (now_in t log) row text) e

-- a count was lost: another seat had an event on the handle with which the text was created; or a head was, in a row to which callers may come
abbrev pub CountLost : ℕ → List ℕ → List Event → List Event → Type 0
CountLost i text seen window = (h : Handle) × Another i (IsOnHandle h) seen window × IsCreatedAs (seen ++ window) text h

abbrev pub HeadLost : Table → ℕ → List ℕ → List Event → List Event → Type 0
HeadLost t i text seen window = (row : ℕ) × Somewhere (IsRowIn t row) seen window × Another i (IsOnHome t row text) seen window

-- what a walk that gives up has lost: a count in a counted table alone; an intern that waits does not give up
abbrev pub LostBy : Goal → Kind → Table → ℕ → List ℕ → List Event → List Event → Type 0
LostBy Lookup kind t i text seen window = (kind ≡ Counted) × CountLost i text seen window
LostBy Intern kind t i text seen window = ((kind ≡ Counted) × CountLost i text seen window) ⊎ HeadLost t i text seen window
LostBy InternWait kind t i text seen window = ⊥

-- why a walk answers so: it misses where the text was absent, and finds no slot where each was taken as well
abbrev pub WalkEnds : Table → ℕ → Asked → List Event → List Event → Answer → Type 0
WalkEnds t i q seen window answer.Miss = Somewhere (IsAbsent q.text) seen window
WalkEnds t i q seen window answer.Again = LostBy q.goal q.kind t i q.text seen window
WalkEnds t i q seen window answer.Locked = Somewhere (IsTextLocked t q.text) seen window
WalkEnds t i q seen window answer.NoSlot = Somewhere (IsAbsent q.text) seen window × ((slot : ℕ) → slot < t.shape.slots → Somewhere (IsTaken t slot) seen window)
WalkEnds t i q seen window _ = Unit {0}

-- why a call by handle answers so
abbrev pub ChangeEnds : ℕ → Handle → List Event → List Event → Answer → Type 0
ChangeEnds i h seen window answer.Again = Another i (IsOnHandle h) seen window
ChangeEnds i h seen window answer.Stale = Somewhere (IsGone h) seen window
ChangeEnds i h seen window _ = Unit {0}

abbrev pub ReadEnds : Handle → List Event → List Event → Answer → Type 0
ReadEnds h seen window answer.Stale = Somewhere (IsGone h) seen window
ReadEnds h seen window _ = Unit {0}

abbrev pub CallEnds : Table → ℕ → Way → Asked → List Event → List Event → Answer → Type 0
CallEnds t i Walks q seen window a = WalkEnds t i q seen window a
CallEnds t i (Changes change) q seen window a = ChangeEnds i q.handle seen window a
CallEnds t i Reads q seen window a = ReadEnds q.handle seen window a
CallEnds t i Splits q seen window a = Unit {0}

-- a call is decided before it leaves its section
abbrev pub ThenEnds : Table → ℕ → Way → Asked → List Event → List Event → Then → Type 0
ThenEnds t i way q seen window (next.Answer a) = CallEnds t i way q seen window a
ThenEnds t i way q seen window next.TryAgain = way ≡ Walks

-- only interns insert
abbrev pub IsIntern : Goal → Type 0
IsIntern Lookup = ⊥
IsIntern _ = Unit {0}

-- the walk loaded its head within the window, in a row to which callers came, and where that was locked, so was the bucket of the text
pub record HeadFound (t : Table) (seen window : List Event) (load : ℕ) (text : List ℕ) (walk : Walk) : Type 0 where
  pub began : length seen ≤ load
  pub row : Somewhere (IsRowIn t walk.row) seen window
  pub locked : is_locked walk.head ≡ true → Somewhere (IsTextLocked t text) seen window

-- of `slots` slots the slot is among the `tried` ones before another, going round
abbrev pub IsTried : ℕ → ℕ → ℕ → ℕ → Type 0
IsTried slots slot tried x = ((x < slot) × (slot ≤ x + tried)) ⊎ ((x < slots) × (slot + slots ≤ x + tried))

-- the handle was created before the call
abbrev pub WasMade : Table → List Event → Handle → Type 0
WasMade t seen h = (past_of t.shape.min_level seen).made h ≡ true

-- what the call has found out at each stage
abbrev pub CallCaused : Table → ℕ → Way → List Event → List Event → ℕ → Asked → Along → CallStage → Type 0
CallCaused t i way seen window load q w (stage.Answered a) = CallEnds t i way q seen window a
CallCaused t i way seen window load q w (stage.Leave s) = ThenEnds t i way q seen window (then_of s)
CallCaused t i way seen window load q w (stage.Draw s) = way ≡ Splits
CallCaused t i way seen window load q w (stage.Find s) = way ≡ Walks
CallCaused t i way seen window load q w (stage.Node (node.Take slot count)) = (way ≡ Walks) × Somewhere (IsWordOf q.text (handle_at slot count) count) seen window × (q.kind ≡ Counted)
CallCaused t i way seen window load q w (stage.Node s) = (way ≡ Walks) × HeadFound t seen window load q.text w.walk
CallCaused t i way seen window load q w (stage.Insert (insert.Claim slot tried)) = (way ≡ Walks) × IsIntern q.goal × (length seen ≤ load)
    × Somewhere (IsAbsent q.text) seen window × ((x : ℕ) → IsTried t.shape.slots slot tried x → Somewhere (IsTaken t x) seen window) × Somewhere (IsRowIn t w.walk.row) seen window
CallCaused t i way seen window load q w (stage.Insert s) = (way ≡ Walks) × IsIntern q.goal × (length seen ≤ load) × Somewhere (IsRowIn t w.walk.row) seen window
CallCaused t i way seen window load q w (stage.Handle (handle.Count change)) = (way ≡ Changes change) × WasMade t seen q.handle
CallCaused t i way seen window load q w (stage.Handle (handle.Exchange change count)) =
    (way ≡ Changes change) × ((text : List ℕ) × Somewhere (IsWordOf text q.handle count) seen window)
CallCaused t i way seen window load q w (stage.Read s) = (way ≡ Reads) × WasMade t seen q.handle

-- a live entry of the text was made at or after a place
abbrev pub IsLateAlone : Now → List ℕ → ℕ → Type 0
IsLateAlone n text load = (e : Entry) → entry_of n.texts text ≡ Some e → IsLate n text load e.handle.slot

-- the walk is at the bucket of the text, and callers come to it
abbrev pub IsAtHome : Now → Flow → List ℕ → Walk → Type 0
IsAtHome n f text walk = IsUsed n f walk.row walk.bucket × IsRowOf n walk.row × (walk.bucket ≡ home_of n walk.row text)

-- what the call knows as it finds a word, beside what the word says: a chain that is at its end has no earlier entry of the text, a node that
-- matches is one of the text, and the word of the head is the one that was loaded, or another seat had an event on the bucket since, which was
-- locked since where the head is redirected; a kill is one in a weak table
abbrev pub HearsHead : Past → Flow → List ℕ → Walk → ℕ → Type 0
HearsHead p f text walk word = IsAtHome p.now f text walk × (first_of word ≡ None → IsLateAlone p.now text p.now.place)

abbrev pub CallHears : Table → Past → Flow → ℕ → ℕ → List Event → Asked → Along → CallStage → ℕ → Type 0
CallHears t p f i load log q w (stage.Find find.LoadHead) word = is_redirected word ≡ false → HearsHead p f q.text w.walk word
CallHears t p f i load log q w (stage.Find find.LoadNewHead) word = HearsHead p f q.text w.walk word
CallHears t p f i load log q w (stage.Node (node.Count slot)) word = IsSeenWith p.now i slot q.text
CallHears t p f i load log q w (stage.Node (node.Link slot)) word = node_of word ≡ None → IsLateAlone p.now q.text load
CallHears t p f i load log q w (stage.Insert (insert.Create h)) word =
    (is_redirected word ≡ false → IsAtHome p.now f q.text w.walk) × (is_redirected word ≡ true → WasSince (IsTextLocked t q.text) load log)
    × ((word ≡ w.walk.head) ⊎ AnotherSince i (IsOnHome t w.walk.row q.text) load log)
CallHears t p f i load log q w (stage.Handle (handle.Exchange change.Kill count)) word = t.kind ≡ Weak
CallHears t p f i load log q w _ word = Unit {0}

-- a Rehash is by who has the table alone, between its calls
abbrev pub IsNoRehash : What → Type 0
IsNoRehash (what.Rehash seed) = ⊥
IsNoRehash _ = Unit {0}

-- each of the events is one that a call may have
abbrev pub AreOfCall : List What → Type 0
AreOfCall [] = Unit {0}
AreOfCall (e ∷ events) = (IsOfCall e × IsNoRehash e) × AreOfCall events

-- what the call itself did in its window: callers see what it has made so far, its Opens and Closes come in pairs, each Claim but that of the
-- slot that it has now is followed by its Create or its Free, there is one Claim at most, and nothing is done that only works do
pub record Owns (i : ℕ) (window : List Event) (c : Calling) : Type 0 where
  pub shown : filter is_visible (whats_by i window) ≡ made_of c
  pub sections : after_all section (Some false) (whats_by i window) ≡ Some (is_inside c)
  pub slots : after_all slot (Some None) (whats_by i window) ≡ Some (claimed_slot c)
  pub claims : claims_in (whats_by i window) + may_claim c ≤ 1
  pub calls : AreOfCall (whats_by i window)

-- and where it has answered: callers see what its answer stands for, its section is closed, it has no slot, and it has claimed none
-- where it found none
abbrev pub ClaimsNone : Answer → List What → Type 0
ClaimsNone answer.NoSlot events = claims_in events ≡ 0
ClaimsNone _ events = Unit {0}

pub record Did (i : ℕ) (window : List Event) (q : Asked) (a : Answer) : Type 0 where
  pub shown : filter is_visible (whats_by i window) ≡ stands_for q a
  pub sections : after_all section (Some false) (whats_by i window) ≡ Some false
  pub slots : after_all slot (Some None) (whats_by i window) ≡ Some None
  pub claims : claims_in (whats_by i window) ≤ 1
  pub none : ClaimsNone a (whats_by i window)
  pub calls : AreOfCall (whats_by i window)
