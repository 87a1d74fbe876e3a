-- What a reading of the text of a handle comes to.
use Rattle.std.specs.Prelude.{◌≡◌, ℕ, ◌<◌, ◌≤◌, List, [], ◌∷◌, ◌++◌, length, slice_index}
use Rattle.text_words.specs.Words.{words_of, word_at}
use Rattle.intern_log.specs.declared.event.Event.{Event}
use Rattle.intern_log.specs.declared.event.Handle.{Handle}
use Rattle.intern_log.specs.declared.event.Kind.{Kind}
use Rattle.intern_log.specs.declared.event.Kind.TheVariants.{Counted, Weak}
use Rattle.intern_log.specs.declared.event.What.{What}
use Rattle.intern_log.specs.declared.event.What.TheVariants as what
use Rattle.intern_log.specs.Sections.{IsCreatedAs}
use Rattle.atomic_step.specs.declared.answer.Answer.{Answer}
use Rattle.atomic_step.specs.declared.answer.Answer.TheVariants as answer
use Rattle.cht_core.specs.CauseCalls.{IsGone}
use Rattle.cht_core.specs.Windows.{Somewhere, whats_by}
use Rattle.cht_run.specs.declared.read.TextOf.{TextOf}
use Rattle.cht_run.specs.declared.read.TextOf.TheVariants as reads
use Rattle.cht_run.specs.declared.sight.Sight.{Sight}
use Rattle.cht_run.specs.History.{log_of}

-- WHAT IT SAYS

-- in a weak table a text is read inside a section
abbrev pub sections_of : Kind → ℕ → List What
sections_of Counted counter = []
sections_of Weak counter = what.Open counter ∷ what.Close ∷ []

-- where it finds the handle stale, no entry had it at a place of the window; a handle that is held is not stale
abbrev pub WhyReads : Kind → Handle → TextOf → List Event → List Event → Type 0
WhyReads kind h (reads.Text long) seen window = Unit {0}
WhyReads kind h reads.Stale seen window = (kind ≡ Weak) × Somewhere (IsGone h) seen window

-- up to a word, these are the words of the text with which the handle was created, and its length
pub record HasRead (log : List Event) (h : Handle) (long bound : ℕ) (old new : List ℕ) : Type 0 where
  pub text : List ℕ
  pub created : IsCreatedAs log text h
  pub long_is : long ≡ length text
  pub words : (at : ℕ) → at < bound → slice_index new at ≡ word_at text at
  pub rest : (at : ℕ) → bound ≤ at → slice_index new at ≡ slice_index old at

-- all of them, where it has read the text
abbrev pub ReadsText : List Event → Handle → List ℕ → List ℕ → TextOf → Type 0
ReadsText log h old new (reads.Text long) = HasRead log h long (words_of long) old new
ReadsText log h old new reads.Stale = new ≡ old

-- ON ITS WAY

-- what a number has done
abbrev pub done_by : ℕ → Sight → List What
done_by i v = whats_by i (log_of v.history)

-- a log goes on from another one
abbrev pub IsLonger : List Event → List Event → Type 0
IsLonger log longer = (later : List Event) × (longer ≡ log ++ later)

-- the length is that of the text
abbrev pub IsLong : List Event → Handle → ℕ → Type 0
IsLong log h long = (text : List ℕ) × IsCreatedAs log text h × (long ≡ length text)

abbrev pub text_answer : TextOf → Answer
text_answer (reads.Text long) = answer.Text long
text_answer reads.Stale = answer.Stale

-- the text was read
abbrev pub HoldsText : TextOf → Type 0
HoldsText (reads.Text long) = Unit {0}
HoldsText reads.Stale = ⊥
