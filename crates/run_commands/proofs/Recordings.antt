-- What comes of a recording, by what its parts came to.
use Rattle.std.proofs.Common.{◌≡◌, ◌<◌, ◌++◌, ℕ, List, [], ◌∷◌, length, get_or, Some, Result, Ok, Err, Bor, refl, sym, ap, ◌∙◌, subst, append-nil}
use Rattle.std.proofs.lemmas.List.{length-map, get_or-map}
use Rattle.std.specs.Prelude.{map, string_bytes, option_copied, OnOk, Vec, String, unwrap_or}
use Rattle.ecoff_load.specs.declared.image.Image.{Image}
use Rattle.ecoff_load.specs.Object.{IsObject}
use Rattle.event_trace.specs.Grammar.{IsTrace}
use Rattle.event_trace.specs.World.{File, files_of}
use Rattle.sim_opts.specs.declared.request.Record.{Record}
use Rattle.journal.specs.declared.fault.Fault.{Fault}
use Rattle.journal.specs.declared.loading.Found.{Found}
use Rattle.journal.specs.declared.loading.Found.TheVariants as found
use Rattle.journal.specs.View.{View}
use Rattle.journal.specs.Load.{input, inputs, found_of, Finds, FoundAll, FoundLong}
use Rattle.journal.specs.Outcome.{Outcome, Ends, Comes}
use Rattle.journal.specs.Loading.{comes_after, comes_too_long, comes_unloaded, comes_now, comes_map, comes_whole, comes_long}
use Rattle.answers.specs.declared.answer.Answer.{Answer}
use Rattle.answers.specs.declared.answer.Answer.TheVariants as answer
use Rattle.answers.specs.Answer.{refused}
use Rattle.answers.specs.JudgingLaws.{object_judged, each_loaded, each_long}
use Rattle.run_commands.specs.declared.world.Enclosed.{Enclosed}
use Rattle.run_commands.specs.Program.{named_input, object_limit}
use Rattle.run_commands.specs.Outcome.{input_limit, opened_inputs, world_of}
use Rattle.run_commands.specs.Replay.{IsRecorded}
use Rattle.run_commands.specs.Parts.{GivenRecords, LoadedRecords, ObjectRecords, RecordingOutcomeOf, enclosed, made_for, names_in, record_inputs_of, recorded_of}
use Rattle.run_commands.proofs.Named.{named_found, named_long, named_unloaded}
use Rattle.run_commands.proofs.Replaying.{is_recorded}

-- all files are loaded, and the object is one of an image
pub loaded_comes : {O : Type 0} (v : View O) (a b : O) (r : Record) (object given : List ℕ) (files : List File) (image : Image) (p : Enclosed) (result : Result Answer Fault) → p ≡ enclosed given files image
    → IsObject object image → OnOk result (IsTrace (made_for r p).0) → Ends v a (recorded_of r p) b result → Comes v a [] (λ _. LoadedRecords r object given files result) b result
loaded_comes v a b r object given files image p result e is valid rest =
    let q = enclosed given files image in
    let args = map string_bytes r.args.now in
    let valid2 = subst (λ x. OnOk result (IsTrace (made_for r x).0)) e valid in
    let rest2 = subst (λ x. Ends v a (recorded_of r x) b result) e rest in
    comes_now v a [] b (λ _. LoadedRecords r object given files result) (recorded_of r q) result
    (λ _. object_judged object (recorded_of r q) (λ i. IsRecorded r.out.now r.max_inst r.object.now args result (recorded_of r q) object i (world_of given files i)) image is
    (is_recorded r.out.now r.max_inst r.object.now args result object image (world_of given files image) is valid2))
    rest2

-- ---- the files that it can open

names_are : (names : List (List ℕ)) (limit : ℕ) → map (λ i. i.name) (inputs names limit) ≡ names
names_are [] limit = refl
names_are (name ∷ names) limit = ap (λ ns. name ∷ ns) (names_are names limit)

count_is : (names : List (List ℕ)) (limit : ℕ) → length (inputs names limit) ≡ length names
count_is names limit = length-map names (λ name. input name limit)

-- a name by its place among references
pub name_there : (names : List (Bor (List ℕ))) (k : ℕ) (d : Bor (List ℕ)) → k < length (inputs (map (λ n. n.now) names) input_limit) → (get_or names k d).now ≡ get_or (map (λ n. n.now) names) k []
name_there names k d l =
    let now : Bor (List ℕ) → List ℕ = λ n. n.now in
    let within : k < length names = subst (λ m. k < m) (count_is (map now names) input_limit ∙ length-map names now) l in
    sym (get_or-map now names k d [] within)

-- all of them are found
pub given_comes : {O A B : Type 0} (v : View O) (a b c : O) (r : Record) (object given : List ℕ) (names : List (List ℕ)) (files : List (String A × Vec ℕ B)) (result : Result Answer Fault) → names ≡ names_in r
    → FoundAll v a (inputs names input_limit) b files → Comes v b [] (λ _. LoadedRecords r object given (files_of files) result) c result → Comes v a (opened_inputs (names_in r)) (GivenRecords r object given result) c result
given_comes {O} {A} {B} v a b c r object given names files result e all rest =
    let is = opened_inputs (names_in r) in
    let Has : List Found → Outcome Answer → Type 0 = GivenRecords r object given result in
    let all2 = subst (λ x. FoundAll v a (inputs x input_limit) b files) e all in
    let rest2 = comes_map v b [] c (λ _. LoadedRecords r object given (files_of files) result) (λ fs. Has (map found_of files ++ fs)) result
    (λ fs o x. each_loaded files (names_in r) fs o (λ opened _. LoadedRecords r object given opened result o) (all2.names ∙ names_are (names_in r) input_limit) x) rest in
    subst (λ x. Comes v a x Has c result) (append-nil is) (comes_whole v a b c is [] files Has result all2 rest2)

-- or one of them is too long
pub given_long : {O : Type 0} (v : View O) (a b c : O) (r : Record) (object given : List ℕ) (names : List (List ℕ)) (k : ℕ) (name : List ℕ) (result : Result Answer Fault) → names ≡ names_in r → name ≡ get_or names k []
    → FoundLong v a (inputs names input_limit) b k → Ends v b (refused (answer.TooLong name)) c result → Comes v a (opened_inputs (names_in r)) (GivenRecords r object given result) c result
given_long v a b c r object given names k name result e here long rest =
    let is = opened_inputs (names_in r) in
    let Has : List Found → Outcome Answer → Type 0 = GivenRecords r object given result in
    let long2 = subst (λ x. FoundLong v a (inputs x input_limit) b k) e long in
    let there : name ≡ get_or (names_in r) k [] = here ∙ ap (λ x. get_or x k []) e in
    let within : k < length (names_in r) = subst (λ m. k < m) (count_is (names_in r) input_limit) long2.within in
    let o : Outcome Answer = refused (answer.TooLong (get_or (names_in r) k [])) in
    subst (λ x. Comes v a x Has c result) (append-nil is)
    (comes_long v a b c is [] k Has o result long2 (λ fs more first. each_long (names_in r) fs more k (λ opened _. LoadedRecords r object given opened result o) first within)
    (subst (λ n. Ends v b (refused (answer.TooLong n)) c result) there rest))

-- the input is loaded
pub object_comes : {O : Type 0} (v : View O) (a b c : O) (r : Record) (object name bytes given : List ℕ) (result : Result Answer Fault) → option_copied r.input ≡ Some name → given ≡ bytes
    → Finds v a (input name input_limit) b (Ok (found.Whole bytes)) → Comes v b (opened_inputs (names_in r)) (GivenRecords r object given result) c result
    → Comes v a (named_input input_limit (option_copied r.input) (opened_inputs (names_in r))) (ObjectRecords r object result) c result
object_comes v a b c r object name bytes given result e same finds rest =
    named_found v a b c input_limit (option_copied r.input) name bytes (opened_inputs (names_in r)) (λ x others o. GivenRecords r object (unwrap_or x []) result others o) result e finds
    (subst (λ x. Comes v b (opened_inputs (names_in r)) (GivenRecords r object x result) c result) same rest)

-- or it is too long
pub object_long : {O : Type 0} (v : View O) (a b c : O) (r : Record) (object name : List ℕ) (result : Result Answer Fault) → option_copied r.input ≡ Some name
    → Finds v a (input name input_limit) b (Ok found.TooLong) → Ends v b (refused (answer.TooLong name)) c result
    → Comes v a (named_input input_limit (option_copied r.input) (opened_inputs (names_in r))) (ObjectRecords r object result) c result
object_long v a b c r object name result e finds rest =
    named_long v a b c input_limit (option_copied r.input) name (opened_inputs (names_in r)) (λ x others o. GivenRecords r object (unwrap_or x []) result others o) result e finds rest

-- or it wasn't loaded
pub object_unloaded : {O : Type 0} (v : View O) (a b : O) (r : Record) (object name : List ℕ) (f : Fault) → option_copied r.input ≡ Some name → Finds v a (input name input_limit) b (Err f)
    → Comes v a (named_input input_limit (option_copied r.input) (opened_inputs (names_in r))) (ObjectRecords r object (Err f)) b (Err f)
object_unloaded v a b r object name f e finds =
    named_unloaded v a b input_limit (option_copied r.input) name (opened_inputs (names_in r)) (λ x others o. GivenRecords r object (unwrap_or x []) (Err f) others o) f e finds

-- the object is loaded
pub record_comes : {O : Type 0} (v : View O) (a b c : O) (r : Record) (object bytes : List ℕ) (result : Result Answer Fault) → bytes ≡ object
    → Finds v a (input r.object.now object_limit) b (Ok (found.Whole object)) → Comes v b (named_input input_limit (option_copied r.input) (opened_inputs (names_in r))) (ObjectRecords r bytes result) c result
    → Comes v a (record_inputs_of r) (RecordingOutcomeOf r result) c result
record_comes v a b c r object bytes result e finds rest =
    let others = named_input input_limit (option_copied r.input) (opened_inputs (names_in r)) in
    comes_after v a b c (input r.object.now object_limit) others object (RecordingOutcomeOf r result) result finds (subst (λ x. Comes v b others (ObjectRecords r x result) c result) e rest)

-- or it is too long
pub record_long : {O : Type 0} (v : View O) (a b c : O) (r : Record) (result : Result Answer Fault)
    → Finds v a (input r.object.now object_limit) b (Ok found.TooLong) → Ends v b (refused (answer.TooLong r.object.now)) c result → Comes v a (record_inputs_of r) (RecordingOutcomeOf r result) c result
record_long v a b c r result finds rest =
    let others = named_input input_limit (option_copied r.input) (opened_inputs (names_in r)) in
    comes_too_long v a b c (input r.object.now object_limit) others (RecordingOutcomeOf r result) (refused (answer.TooLong r.object.now)) result finds (λ fs. refl) rest

-- or it wasn't loaded
pub record_unloaded : {O : Type 0} (v : View O) (a b : O) (r : Record) (f : Fault) → Finds v a (input r.object.now object_limit) b (Err f) → Comes v a (record_inputs_of r) (RecordingOutcomeOf r (Err f)) b (Err f)
record_unloaded v a b r f finds =
    comes_unloaded v a b (input r.object.now object_limit) (named_input input_limit (option_copied r.input) (opened_inputs (names_in r))) (RecordingOutcomeOf r (Err f)) f finds
