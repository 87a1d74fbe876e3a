-- What a call on its way may be, and which words it may be told.
use Rattle.std.specs.Prelude.{◌≡◌, ℕ, ◌*◌, ◌^◌, ◌<◌, ◌≤◌, List, length, Option, None, IfSome}
use Rattle.text_words.specs.Words.{words_of}
use Rattle.table_shape.specs.declared.shape.Shape.{Shape}
use Rattle.table_shape.specs.Shape.{IsSound}
use Rattle.intern_log.specs.declared.event.Handle.{Handle}
use Rattle.intern_log.specs.declared.event.Kind.{Kind}
use Rattle.intern_log.specs.declared.event.Kind.TheVariants.{Counted, Weak}
use Rattle.atomic_step.specs.SoundStep.{IsLevel, IsHeadWord, IsSoundPlan, CanFollow}
use Rattle.call_machine.specs.declared.find.Walk.{Walk}
use Rattle.call_machine.specs.declared.insert.InsertStage.{InsertStage}
use Rattle.call_machine.specs.declared.insert.InsertStage.TheVariants as insert
use Rattle.call_machine.specs.declared.leave.LeaveStage.{LeaveStage}
use Rattle.call_machine.specs.declared.leave.LeaveStage.TheVariants as leave
use Rattle.call_machine.specs.declared.leave.Then.TheVariants as next
use Rattle.call_machine.specs.declared.node.NodeStage.{NodeStage}
use Rattle.call_machine.specs.declared.node.NodeStage.TheVariants as node
use Rattle.call_machine.specs.declared.read.ReadStage.{ReadStage}
use Rattle.call_machine.specs.declared.read.ReadStage.TheVariants as read
use Rattle.call_machine.specs.declared.stage.Along.{Along}
use Rattle.call_machine.specs.declared.stage.Asked.{Asked}
use Rattle.call_machine.specs.declared.stage.Calling.{Calling}
use Rattle.call_machine.specs.declared.stage.CallStage.{CallStage}
use Rattle.call_machine.specs.declared.stage.CallStage.TheVariants as stage
use Rattle.call_machine.specs.Calls.{plan_at}

-- the handle of a slot of the table, with a generation that a count word can have
abbrev pub IsHandle : Shape → Handle → Type 0
IsHandle shape h = (h.slot < shape.slots) × (h.generation < 2 ^ 48)

-- the text has at most 65,535 bytes, and a slot has words for it
abbrev pub HasRoom : Shape → List ℕ → Type 0
HasRoom shape text = (length text ≤ 65535) × (length text ≤ 8 * shape.text_words)

-- the row and the bucket are of the table, and the head was loaded there
abbrev pub IsInChain : Shape → Walk → Type 0
IsInChain shape walk = IsLevel shape walk.row × (walk.bucket < 2 ^ walk.row) × IsHeadWord shape walk.head

-- what a stage has beside its step: the count of a match is raised in a counted table alone
abbrev pub HasSoundNode : Kind → List ℕ → NodeStage → Type 0
HasSoundNode kind text (node.Text slot at) = at < words_of (length text)
HasSoundNode kind text (node.Take slot count) = kind ≡ Counted
HasSoundNode kind text _ = Unit {0}

-- no slot is kept while another is claimed and filled
abbrev pub HasSoundInsert : Shape → List ℕ → Option Handle → InsertStage → Type 0
HasSoundInsert shape text kept (insert.Claim slot tried) = (kept ≡ None) × (tried < shape.slots)
HasSoundInsert shape text kept (insert.OwnCount slot) = kept ≡ None
HasSoundInsert shape text kept (insert.PutMeta h) = (kept ≡ None) × IsHandle shape h
HasSoundInsert shape text kept (insert.PutText h at) = (kept ≡ None) × IsHandle shape h × (at < words_of (length text))
HasSoundInsert shape text kept (insert.PutLink h) = IsHandle shape h
HasSoundInsert shape text kept (insert.PutCount h) = (kept ≡ None) × IsHandle shape h
HasSoundInsert shape text kept (insert.Create h) = IsHandle shape h

-- nor is one after the section of a call that answers
abbrev pub HasSoundLeave : Option Handle → LeaveStage → Type 0
HasSoundLeave kept (leave.Close (next.Answer a)) = kept ≡ None
HasSoundLeave kept _ = Unit {0}

-- a text is read inside a section in a weak table alone
abbrev pub HasSoundRead : Shape → Kind → ReadStage → Type 0
HasSoundRead shape kind (read.Enter s) = kind ≡ Weak
HasSoundRead shape kind read.Count = kind ≡ Weak
HasSoundRead shape kind read.Meta = Unit {0}
HasSoundRead shape kind (read.Text at len) = (at < words_of len) × (len ≤ 8 * shape.text_words)

abbrev pub HasSoundStage : Asked → Along → CallStage → Type 0
HasSoundStage q w (stage.Answered a) = w.kept ≡ None
HasSoundStage q w (stage.Draw s) = w.kept ≡ None
HasSoundStage q w (stage.Find s) = Unit {0}
HasSoundStage q w (stage.Node s) = IsInChain q.shape w.walk × HasSoundNode q.kind q.text s
HasSoundStage q w (stage.Insert s) = IsInChain q.shape w.walk × HasSoundInsert q.shape q.text w.kept s
HasSoundStage q w (stage.Leave s) = HasSoundLeave w.kept s
HasSoundStage q w (stage.Handle s) = w.kept ≡ None
HasSoundStage q w (stage.Read s) = (w.kept ≡ None) × HasSoundRead q.shape q.kind s

-- what is asked, and of whom
pub record IsSoundAsked (q : Asked) : Type 0 where
  pub shape : IsSound q.shape
  pub seed : q.seed < 2 ^ 32
  pub number : q.number < q.shape.seats
  pub room : HasRoom q.shape q.text
  pub handle : IsHandle q.shape q.handle

-- what is taken along
abbrev pub IsSoundAlong : Shape → Along → Type 0
IsSoundAlong shape w = (w.cursor < shape.slots) × IfSome w.kept (IsHandle shape)

-- what a call has at a stage
abbrev pub IsSoundAt : Asked → Along → CallStage → Type 0
IsSoundAt q w s = IsSoundPlan q.shape q.number (plan_at q w s) × HasSoundStage q w s

-- a call on its way
pub record IsSoundCall (c : Calling) : Type 0 where
  pub asked : IsSoundAsked c.asked
  pub along : IsSoundAlong c.asked.shape c.along
  pub at : IsSoundAt c.asked c.along c.stage

-- the word can be what the next step finds
abbrev pub FitsAt : Asked → Along → CallStage → ℕ → Type 0
FitsAt q w s word = CanFollow q.shape (plan_at q w s) word

abbrev pub FitsCall : Calling → ℕ → Type 0
FitsCall c word = FitsAt c.asked c.along c.stage word
