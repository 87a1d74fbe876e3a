-- The unfinished work of a seat: a clean, or a grow or a shrink.
use Rattle.std.specs.Prelude.{Option, Some, None}
use Rattle.table_shape.specs.declared.shape.Shape.{Shape}
use Rattle.atomic_step.specs.declared.answer.Answer.{Answer}
use Rattle.atomic_step.specs.Turn.{Row, map_row}
use Rattle.call_machine.specs.declared.begin.Left.{Left}
use Rattle.call_machine.specs.declared.begin.Left.TheVariants as left
use Rattle.call_machine.specs.declared.clean.CleanStage.TheVariants.{LoadLevel}
use Rattle.call_machine.specs.declared.resize.Resize.{Resize}
use Rattle.call_machine.specs.declared.resize.ResizeStage.TheVariants.{PutNewLevel}
use Rattle.call_machine.specs.declared.work.Work.{Work}
use Rattle.call_machine.specs.declared.work.Work.TheVariants as work
use Rattle.call_machine.specs.Clean as clean
use Rattle.call_machine.specs.Resize as resize
use Rattle.call_machine.specs.SoundClean.{IsSoundClean}
use Rattle.call_machine.specs.SoundResize.{IsSoundResize}

-- what came of a step of a work, or of a new poll: the work, and what the poll answers, if anything
abbrev pub of_clean : clean.Went → Work × Option Answer
of_clean came = (work.Clean (record { along = came.0; stage = came.1 }), came.2)

abbrev pub of_resize : Resize → resize.Went → Work × Option Answer
of_resize r came = (work.Resize (record r { along = came.0; stage = came.1 }), came.2)

abbrev pub work_row : Shape → Work → Row (Work × Option Answer)
work_row shape (work.Clean c) = map_row of_clean (clean.clean_row shape c.along c.stage)
work_row shape (work.Resize r) = map_row (of_resize r) (resize.resize_row shape r.direction r.along r.stage)

-- a new poll: a clean counts its full passes anew, and a work that may begin no further grace answers at once
abbrev pub resumes : Work → Work × Option Answer
resumes (work.Clean c) = of_clean (clean.begins_poll c.along c.stage)
resumes (work.Resize r) = (work.Resize r, resize.resumed r.along r.stage)

-- the work that a call has begun
abbrev pub begun_work : Shape → Left → Option Work
begun_work shape left.Clean = Some (work.Clean (record { along = clean.begun_clean shape.min_level; stage = LoadLevel }))
begun_work shape (left.Resize d level) = Some (work.Resize (record { direction = d; along = resize.begun_resize level; stage = PutNewLevel }))
begun_work shape _ = None

-- a work on its way
abbrev pub IsSoundWork : Shape → Work → Type 0
IsSoundWork shape (work.Clean c) = IsSoundClean shape c.along c.stage
IsSoundWork shape (work.Resize r) = IsSoundResize shape r.direction r.along r.stage
