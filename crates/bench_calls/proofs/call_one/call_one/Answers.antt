-- `call_one` meets its contract: each call leaves a pool. Assumes nothing.
use Rattle.grid_shapes.specs.Outcomes.{outcome_number}
use Rattle.pool_memory.specs.Calls.{told_number}
use Rattle.pool_retire.specs.Answers.{popped_told}
use Rattle.pool_take_doomed.specs.Answer.{handed_told}
use Rattle.pool_take_spare.specs.Answer.{taken_told}
use Rattle.bench_calls.proofs.Keeps.{doomed_keeps, drain_keeps, forget_keeps, note_keeps, park_keeps, pop_keeps, regeneration_keeps, retire_keeps, take_keeps, trim_keeps, write_keeps}
use Rattle.bench_calls.proofs.call_one.call_one.Goals as goal

pub returns-in-TakeSpare : goal.returns-in-TakeSpare
returns-in-TakeSpare c = let m = c.take_spare-said in take_keeps _ _ c.requires (taken_told m.result.taken) _ _ _ _ m.ensures

pub returns-in-PreservePlan : goal.returns-in-PreservePlan
returns-in-PreservePlan c = c.requires

pub returns-in-Retire : goal.returns-in-Retire
returns-in-Retire c = let m = c.retire-said in retire_keeps _ _ c.requires (told_number (outcome_number m.result.outcome)) _ _ _ m.ensures

pub returns-in-NoteWrite : goal.returns-in-NoteWrite
returns-in-NoteWrite c = let m = c.note_write-said in write_keeps _ _ c.requires (told_number (outcome_number m.result.outcome)) _ _ _ _ m.ensures

pub returns-in-PopRetired : goal.returns-in-PopRetired
returns-in-PopRetired c = let m = c.pop_retired-said in pop_keeps _ _ c.requires (popped_told m.result.popped) _ m.ensures

pub returns-in-Park : goal.returns-in-Park
returns-in-Park c = let m = c.park-said in park_keeps _ _ c.requires (told_number (outcome_number m.result.outcome)) _ _ m.ensures

pub returns-in-NoteAllocated : goal.returns-in-NoteAllocated
returns-in-NoteAllocated c = let m = c.note_allocated-said in note_keeps _ _ c.requires (told_number (outcome_number m.result.outcome)) _ m.ensures

pub returns-in-TakeDoomed : goal.returns-in-TakeDoomed
returns-in-TakeDoomed c = let m = c.take_doomed-said in doomed_keeps _ _ c.requires (handed_told m.result.handed) _ _ m.ensures

pub returns-in-Trim : goal.returns-in-Trim
returns-in-Trim c = let m = c.trim-said in trim_keeps _ _ c.requires (told_number (outcome_number m.result.outcome)) _ m.ensures

pub returns-in-NoteMipRegeneration : goal.returns-in-NoteMipRegeneration
returns-in-NoteMipRegeneration c = let m = c.note_mip_regeneration-said in regeneration_keeps _ _ c.requires (told_number (outcome_number m.result.outcome)) _ m.ensures

pub returns-in-DrainVersions : goal.returns-in-DrainVersions
returns-in-DrainVersions c = let m = c.drain_versions-said in drain_keeps _ _ c.requires (handed_told m.result.handed) _ _ m.ensures

pub returns-in-ForgetTexture : goal.returns-in-ForgetTexture
returns-in-ForgetTexture c = let m = c.forget_texture-said in forget_keeps _ _ c.requires (told_number (outcome_number m.result.outcome)) _ m.ensures
