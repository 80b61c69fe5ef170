-- What a walk of a function's MIR by hand is written with: the steps of the modules below, and the kit's own that a walk cites.
pub mod Arrays
pub mod Calls
pub mod Fronts
pub mod Lent
pub mod Locals
pub mod Loops
pub mod Steps
pub mod Whole
pub use Arrays.{repeated, typed_array, array_at, lends_array, array_back, array_given}
pub use Calls.{Brings, held, made, Callee, total, unsaid, Asked, asks, asks_last}
pub use Fronts.{front_of, number_copy, fronts}
pub use Lent.{named_as, holding, KeptShared, KeptAgain, lends_shared, shared_back, lends_again, comes_back, twice, says_last, measures, measures_beside}
pub use Locals.{locals, Places, env_of, lets_go}
pub use Loops.{Nearer, nearer_wf, Turned}
pub use Steps.{Field, words, word, lose, var, part, counts, refers, sets, resets, receives, replaces, relends, relends_front, tests, whens, big_lit}
pub use Whole.{End, gone, had, Ends, kept_slice, given_slice, Exit, finishes, proves, proves_given}
pub use mathlib.Core.Option.{none, some}
pub use seplogic.Ra.Ura.{Ura}
pub use base.Fraction.{full_share}
pub use mir.Syntax.{named, w8, w32, w64, ty_bool}
pub use mir.Val.{Val, vunit, vbool, vint}
pub use base.Logic.{SProp, emp, id⊢}
pub use base.Fml.{Lft, Share, GName, Fml, fat, flft}
pub use prog.Memory.{Memory}
pub use prog.Routine.{Routine}
pub use prog.Wp.{Heap, Env, Tables, spot_of}
unfoldable pub use prog.Wp.{after_turn}
pub use ghost.Atoms.{Atoms}
pub use contract.Monad.{Fun}
pub use contract.Running.{tables}
unfoldable pub use contract.Running.{tables_of}
pub use sound.WpLaws.{FmC, fm_of}
pub use types.Logic.{Logic}
pub use types.Kit.{Item, Sq, prop, runs, at_ret, any_q, ‵, ◌$◌, !, by, rewrite, move, drop, fsplit, fjoin, feq_l}
pub use types.Run.{look, look_raw, store, store_raw, forget, stop, hop, fld, from, load, lit, unit_lit, true_lit, false_lit, of_opd, bin, addr, and_then, no_more, assigns, assigns_last, first, blocks, loops, again, branches, skips, exec, returns, returns_within}
pub use types.Part.{whole, sub, look_in, agg, rep}
pub use denote.Array.{Array-Lawful}
pub use denote.Laws.{Is}
pub use denote.Plain.{uint_vals, uint_Tells, uint_Makes, bool_vals, bool_Tells, bool_Makes, Nothing-Tells, Nothing-Makes}
pub use denote.Ref.{Bor, MutBor}
pub use denote.Slice.{slice_val, shr_slice_vals, mut_slice_vals, MutSlice, ShrSlice, Room, mut_slice_Tells, shr_slice_Tells}
pub use denote.Signature.{plain}
pub use denote.Triple.Statement.{Triple}
pub use denote.Triple.Table.{cited}
