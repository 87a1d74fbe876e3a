-- Of which kind the table of a task is.
use Rattle.intern_log.specs.declared.event.Kind.{Kind}
use Rattle.intern_log.specs.declared.event.Kind.TheVariants.{Counted, Weak}
use Rattle.table_bench.specs.declared.tasks.Task.{Task}
use Rattle.table_bench.specs.declared.tasks.Task.TheVariants as task

abbrev pub kind_of : Task → Kind
kind_of task.Find = Weak
kind_of task.Miss = Weak
kind_of task.Take = Counted
kind_of task.Hold = Counted
kind_of task.Make = Counted
