-- What a seat knows that reads the text of a handle, and what its loads say of it.
use Rattle.std.specs.Prelude.{◌≡◌, ℕ, ◌<◌, ◌≤◌, List, length}
use Rattle.text_words.specs.Words.{words_of, word_at}
use Rattle.marked_word.specs.Meta.{length_in}
use Rattle.intern_log.specs.declared.event.Event.{Event}
use Rattle.intern_log.specs.declared.event.Handle.{Handle}
use Rattle.intern_log.specs.declared.event.Kind.{Kind}
use Rattle.intern_log.specs.declared.event.Kind.TheVariants.{Weak}
use Rattle.intern_log.specs.Sections.{IsCreatedAs}
use Rattle.call_machine.specs.declared.machine.Machine.{Machine}
use Rattle.call_machine.specs.declared.machine.Machine.TheVariants as machine
use Rattle.call_machine.specs.declared.read.ReadStage.{ReadStage}
use Rattle.call_machine.specs.declared.read.ReadStage.TheVariants as read
use Rattle.call_machine.specs.declared.stage.Asked.{Asked}
use Rattle.call_machine.specs.declared.stage.CallStage.{CallStage}
use Rattle.call_machine.specs.declared.stage.CallStage.TheVariants as stage
use Rattle.cht_core.specs.KnowsCall.{HasWords}
use Rattle.cht_core.specs.Memory.{Memory}

-- the words of the handle's slot are those of the text with which it was created
pub record TextKept (m : Memory) (seed : ℕ) (log : List Event) (h : Handle) : Type 0 where
  pub text : List ℕ
  pub created : IsCreatedAs log text h
  pub short : length text ≤ 65535
  pub words : HasWords m seed text h.slot (words_of (length text))

-- in a weak table a seat knows it once it has seen the entry live, until it has read the text
abbrev pub ReadKept : Memory → ℕ → List Event → Handle → Kind → ReadStage → Type 0
ReadKept m seed log h Weak read.Meta = TextKept m seed log h
ReadKept m seed log h Weak (read.Text at len) = (kept : TextKept m seed log h) × (len ≡ length kept.text)
ReadKept m seed log h _ s = Unit {0}

abbrev pub StageKept : Memory → ℕ → List Event → Asked → CallStage → Type 0
StageKept m seed log q (stage.Read s) = ReadKept m seed log q.handle q.kind s
StageKept m seed log q _ = Unit {0}

abbrev pub MachineKept : Memory → ℕ → List Event → Machine → Type 0
MachineKept m seed log (machine.Call c w g) = StageKept m seed log c.asked c.stage
MachineKept m seed log _ = Unit {0}

-- the loads of its meta word and of its text words say so of that text
abbrev pub StageReads : List Event → Handle → CallStage → ℕ → Type 0
StageReads log h (stage.Read read.Meta) word = (text : List ℕ) × IsCreatedAs log text h × (length_in word ≡ length text)
StageReads log h (stage.Read (read.Text at len)) word = (text : List ℕ) × IsCreatedAs log text h × (len ≡ length text) × (at < words_of len → word ≡ word_at text at)
StageReads log h _ word = Unit {0}

abbrev pub MachineReads : List Event → Machine → ℕ → Type 0
MachineReads log (machine.Call c w g) word = StageReads log c.asked.handle c.stage word
MachineReads log _ word = Unit {0}
