-- When a call is inside its section, and which slot it has claimed and neither created an entry in nor given back.
use Rattle.std.specs.Prelude.{ℕ, Bool, true, false, Option, Some, None}
use Rattle.std.specs.Option.{option_map}
use Rattle.table_shape.specs.declared.place.Place.{Place}
use Rattle.table_shape.specs.declared.place.Place.TheVariants as place
use Rattle.intern_log.specs.declared.event.Handle.{Handle}
use Rattle.intern_log.specs.declared.event.Kind.{Kind}
use Rattle.intern_log.specs.declared.event.Kind.TheVariants.{Counted, Weak}
use Rattle.call_machine.specs.declared.find.FindStage.{FindStage}
use Rattle.call_machine.specs.declared.find.FindStage.TheVariants as find
use Rattle.call_machine.specs.declared.insert.InsertStage.{InsertStage}
use Rattle.call_machine.specs.declared.insert.InsertStage.TheVariants as insert
use Rattle.call_machine.specs.declared.leave.LeaveStage.{LeaveStage}
use Rattle.call_machine.specs.declared.leave.LeaveStage.TheVariants as leave
use Rattle.call_machine.specs.declared.read.ReadStage.{ReadStage}
use Rattle.call_machine.specs.declared.read.ReadStage.TheVariants as read
use Rattle.call_machine.specs.declared.stage.Calling.{Calling}
use Rattle.call_machine.specs.declared.stage.CallStage.{CallStage}
use Rattle.call_machine.specs.declared.stage.CallStage.TheVariants as stage

-- whether the stage is after the opening of the section and before its closing; a counted table's text is read outside
abbrev pub is_inside_finding : FindStage → Bool
is_inside_finding (find.Enter s) = false
is_inside_finding _ = true

abbrev pub is_weak : Kind → Bool
is_weak Counted = false
is_weak Weak = true

abbrev pub is_inside_reading : Kind → ReadStage → Bool
is_inside_reading kind (read.Enter s) = false
is_inside_reading kind _ = is_weak kind

abbrev pub is_inside_stage : Kind → CallStage → Bool
is_inside_stage kind (stage.Answered a) = false
is_inside_stage kind (stage.Draw s) = false
is_inside_stage kind (stage.Find s) = is_inside_finding s
is_inside_stage kind (stage.Node s) = true
is_inside_stage kind (stage.Insert s) = true
is_inside_stage kind (stage.Leave s) = true
is_inside_stage kind (stage.Handle s) = false
is_inside_stage kind (stage.Read s) = is_inside_reading kind s

abbrev pub is_inside : Calling → Bool
is_inside c = is_inside_stage c.asked.kind c.stage

-- the slot of a handle, if there is one
abbrev pub slot_of : Option Handle → Option ℕ
slot_of kept = option_map (λ h. h.slot) kept

-- the slot that the call has claimed
abbrev pub slot_inserting : Option Handle → InsertStage → Option ℕ
slot_inserting kept (insert.Claim slot tried) = slot_of kept
slot_inserting kept (insert.OwnCount slot) = Some slot
slot_inserting kept (insert.PutMeta h) = Some h.slot
slot_inserting kept (insert.PutText h at) = Some h.slot
slot_inserting kept (insert.PutLink h) = Some h.slot
slot_inserting kept (insert.PutCount h) = Some h.slot
slot_inserting kept (insert.Create h) = Some h.slot

abbrev pub slot_leaving : Option Handle → LeaveStage → Option ℕ
slot_leaving kept (leave.UndoCount h after) = Some h.slot
slot_leaving kept (leave.UndoClaim slot after) = Some slot
slot_leaving kept (leave.Close after) = slot_of kept

abbrev pub slot_at : Option Handle → CallStage → Option ℕ
slot_at kept (stage.Insert s) = slot_inserting kept s
slot_at kept (stage.Leave s) = slot_leaving kept s
slot_at kept _ = slot_of kept

abbrev pub claimed_slot : Calling → Option ℕ
claimed_slot c = slot_at c.along.kept c.stage

-- the slot that a word is of
abbrev pub slot_of_place : Place → Option ℕ
slot_of_place (place.Claim slot) = Some slot
slot_of_place (place.Link slot) = Some slot
slot_of_place (place.Count slot) = Some slot
slot_of_place (place.Meta slot) = Some slot
slot_of_place (place.Text slot at) = Some slot
slot_of_place _ = None
