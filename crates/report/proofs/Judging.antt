-- From what was read and evaluated to what the report of a sheet says. Assumes nothing.
use Rattle.std.proofs.Common.{◌≡◌, ℕ, ◌+◌, ◌-◌, ◌*◌, ◌≤◌, Bool, true, false, cond, List, [], ◌∷◌, map, length, take, drop, Some, None, Ok, Err, Option, Result, sym, refl, ap, ◌∙◌, subst, arith}
use Rattle.std.proofs.lemmas.List.{length-map, length-drop}
use Rattle.std.proofs.lemmas.Bool.Decides.{nat_tests}
use Rattle.logic.specs.Table.{Table}
use Rattle.words.specs.declared.Fault.{Fault}
use Rattle.words.specs.Faults.{number, position, text_limit}
use Rattle.words.specs.Words.{counted, limited, decimal, name_bytes, name_from}
use Rattle.words.specs.declared.Letters.TheVariants.{Upper}
use Rattle.words.proofs.Words.{kept_whole}
use Rattle.model.specs.declared.Model.{Model}
use Rattle.model.specs.declared.names.Names.TheVariants.{States, Actions}
use Rattle.model.specs.declared.vocabulary.Vocabulary.{Vocabulary}
use Rattle.model.specs.Content as model
use Rattle.model.specs.Grammar.{Admissible}
use Rattle.model.specs.Laws.{Meant}
use Rattle.model.specs.Values.{padded, blank_name, model_of, table_of}
use Rattle.model.proofs.Cells.{take_padded}
use Rattle.model.proofs.GivingBack.{gives_back}
use Rattle.formula.specs.declared.Formula.{Formula}
use Rattle.formula.specs.Sheets as formula
use Rattle.formula.specs.Sheets.{NamesStand, FormulaSheet, formula_of, given_action_names, given_property_names}
use Rattle.formula.specs.Wholes.{Meaning, meaning_of}
use Rattle.formula.proofs.NameWalks.{named_short}
use Rattle.formula.proofs.WholeLaws.{meaning_whole, read_whole}
use Rattle.store.specs.Frames.{Frame}
use Rattle.evaluate.specs.declared.fault.EvaluateFault.{EvaluateFault}
use Rattle.evaluate.specs.declared.fault.EvaluateFault.TheVariants.{Differ, TooFewSets, Store}
use Rattle.evaluate.specs.Evaluation.{Numbers}
use Rattle.report.specs.declared.faults.SheetFault.{SheetFault}
use Rattle.report.specs.declared.faults.SheetFault.TheVariants.{Reading, Evaluation}
use Rattle.report.specs.declared.printer.Printer.{Printer}
use Rattle.report.specs.Formulas.{Evaluates, Small}
use Rattle.report.specs.Laying.{whole_frame, ReadTo, ReadAt, Refused, SheetLaid}
use Rattle.report.specs.Lines.{action_names, variable_names}
use Rattle.report.specs.Printers.{Lays, LaysSome}
use Rattle.report.specs.Reports.{Sheet, Told}
use Rattle.report.proofs.Moving.{refused_inside, sheet_reaches, next_is}

limited_high : (low high n : ℕ) (o : Option ℕ) → limited low high o ≡ Some n → n ≤ high
limited_high low high n None h = let z : ◌≡◌ {A = ℕ} 0 1 = cc in absurd (omega arith)
limited_high low high n (Some m) h = grind (arith, nat_tests)

cond_high : (b : Bool) (low high n : ℕ) (o : Option ℕ) → cond b None (limited low high o) ≡ Some n → n ≤ high
cond_high true low high n o h = let z : ◌≡◌ {A = ℕ} 0 1 = cc in absurd (omega arith)
cond_high false low high n o h = limited_high low high n o h

pub count_high : (w : List ℕ) (low high n : ℕ) → counted w low high ≡ Some n → n ≤ high
count_high w low high n h = cond_high _ low high n (decimal 0 w) h

-- the names of variables are kept whole
pub variables_back : (text : List ℕ) (ws : List (List ℕ)) (p q : ℕ) → NamesStand text ws p q → map name_bytes (take (length ws) (padded 4 blank_name (map name_from ws))) ≡ ws
variables_back text ws p q h = ap (map name_bytes) (take_padded 4 blank_name (map name_from ws) (length ws) (length-map ws name_from)) ∙ each ws p h
  where
    each : (vs : List (List ℕ)) (from : ℕ) → NamesStand text vs from q → map name_bytes (map name_from vs) ≡ vs
    each [] from s = refl
    each (v ∷ vs) from s = λ i. kept_whole v (named_short Upper v s.2) i ∷ each vs s.0 s.3 i

-- what a formula is evaluated over
record Over : Type 0 where
  frame : Frame
  table : Table
  meaning : Meaning
  actions : List (List ℕ)
  variables : List (List ℕ)

abbrev EvaluatesOver : Over → Printer → Result (Unit {0}) EvaluateFault → Printer → Type 0
EvaluatesOver o p r q = Evaluates o.frame o.table o.meaning o.actions o.variables p r q

-- a sheet that was read against a model is within the limits
module _ (m : Model) (v : Formula) (c : model.Content) (a : Admissible c) (keeps : m ≡ model_of c) (text : List ℕ) (d : formula.Content) (end : ℕ) (sheet : FormulaSheet text (given_action_names m.vocabulary) (given_property_names m.vocabulary) d end) (is : v ≡ formula_of (length (given_action_names m.vocabulary)) (length (given_property_names m.vocabulary)) d) where
  acts : action_names m ≡ c.actions
  acts = ap action_names keeps ∙ (gives_back c a).actions

  props : given_property_names m.vocabulary ≡ c.properties
  props = ap (λ z. given_property_names z.vocabulary) keeps ∙ (gives_back c a).properties

  pub count_is : m.vocabulary.actions.count ≡ length c.actions
  count_is = ap (λ z. z.vocabulary.actions.count) keeps

  pub variables_is : v.variables.count ≡ length d.names
  variables_is = ap (λ z. z.variables.count) is

  pub variables_few : v.variables.count ≤ 4
  variables_few = let few = count_high sheet.count 0 4 (length d.names) sheet.counts in omega (arith, variables_is)

  pub actions_some : 1 ≤ m.vocabulary.actions.count
  actions_some = omega (arith, count_is, (a.few_names Actions).0)

  pub within : Small m v
  within =
      let states : m.table.states ≡ length c.states = ap (λ z. z.table.states) keeps in
      let bits : m.vocabulary.actions.count * v.variables.count ≡ length (given_action_names m.vocabulary) * length d.names =
      λ i. (count_is ∙ ap length (sym acts)) i * variables_is i in
      record {
        some_state = omega (arith, states, (a.few_names States).0);
        states = omega (arith, states, (a.few_names States).1);
        actions = omega (arith, count_is, (a.few_names Actions).1);
        bits = omega (arith, bits, sheet.bits);
      }

  pub sheet_over : FormulaSheet text c.actions c.properties d end
  sheet_over =
      let P : List (List ℕ) → Type 0 = λ ws. FormulaSheet text ws (given_property_names m.vocabulary) d end in
      let Q : List (List ℕ) → Type 0 = λ ws. FormulaSheet text c.actions ws d end in
      subst Q props (subst P acts sheet)

  means : meaning_of v ≡ record { formula = d.formula; actions = length c.actions; variables = length d.names; properties = length c.properties }
  means =
      ap meaning_of is ∙ meaning_whole (formula_of (length (action_names m)) (length (given_property_names m.vocabulary)) d) d.formula (read_whole text (given_action_names m.vocabulary) (given_property_names m.vocabulary) d end sheet)
      ∙ (λ i. record { formula = d.formula; actions = length (acts i); variables = length d.names; properties = length (props i) })

  vars : variable_names v ≡ d.names
  vars = ap variable_names is ∙ variables_back text d.names sheet.names_from sheet.formula_from sheet.names_stand

  -- What was evaluated is what the sheets say: the value of the model means its content's table, that of the formula its content's
  -- formula, and the names are those of the sheets.
  pub evaluates_sheet : (size : ℕ) (p : Printer) (r : Result (Unit {0}) EvaluateFault) (q : Printer)
      → Evaluates (whole_frame size m.vocabulary.actions.count v.variables.count) (table_of m.table) (meaning_of v) (action_names m) (variable_names v) p r q
      → Evaluates (whole_frame size (length c.actions) (length d.names)) (Meant c) (record { formula = d.formula; actions = length c.actions; variables = length d.names; properties = length c.properties }) c.actions d.names p r q
  evaluates_sheet size p r q h =
      let table : table_of m.table ≡ Meant c = ap (λ z. table_of z.table) keeps ∙ (gives_back c a).table in
      let same : ◌≡◌ {A = Over} (record { frame = whole_frame size m.vocabulary.actions.count v.variables.count; table = table_of m.table; meaning = meaning_of v; actions = action_names m; variables = variable_names v }) (record { frame = whole_frame size (length c.actions) (length d.names); table = Meant c; meaning = record { formula = d.formula; actions = length c.actions; variables = length d.names; properties = length c.properties }; actions = c.actions; variables = d.names }) =
      λ i. record { frame = whole_frame size (count_is i) (variables_is i); table = table i; meaning = means i; actions = acts i; variables = vars i } in
      let P : Over → Type 0 = λ o. EvaluatesOver o p r q in
      subst P same h

-- The evaluation never refuses by 20: the table and the store have their actions from the model sheet against which the formula
-- was read, the store its variables from the formula sheet, and the table its properties from the model sheet.
numbers_agree : (size : ℕ) (c : model.Content) (d : formula.Content) → Numbers (whole_frame size (length c.actions) (length d.names)) (Meant c) (length c.actions) (length d.names) (length c.properties)
numbers_agree size c d = record { table_actions = refl; store_actions = refl; store_variables = refl; table_properties = refl }

-- the evaluation of a sheet, told
module _ (text : List ℕ) (size : ℕ) (c : model.Content) (from : ℕ) (d : formula.Content) (end next : ℕ) (sheet : FormulaSheet (drop from text) c.actions c.properties d end) (behind : next ≡ from + end) (p : Printer) where
  stands : Sheet text size c from d next
  stands = record { end = end; stands = sheet; behind = behind }

  abbrev pub Answer : Result (Unit {0}) EvaluateFault → Printer → Type 0
  Answer r q = Evaluates (whole_frame size (length c.actions) (length d.names)) (Meant c) (record { formula = d.formula; actions = length c.actions; variables = length d.names; properties = length c.properties }) c.actions d.names p r q

  pub told_sheet : (q : Printer) → Answer (Ok tt) q → LaysSome (λ bytes. Told text size c from bytes next) p q
  told_sheet q h = record {
    bytes = h.1.bytes;
    holds = record { content = d; sheet = stands; enough = h.0.1; report = h.1.holds };
    lays = h.1.lays;
  }

  pub refused_sheet : (e : EvaluateFault) (q : Printer) → Answer (Err e) q → Refused text size c from (Evaluation e)
  refused_sheet Differ q h first word_end word = absurd (h.0 (numbers_agree size c d))
  refused_sheet TooFewSets q h first word_end word =
      record { content = d; behind = next; sheet = stands; lacks = h.0.1; number = refl; end = word_end; first = word }
  refused_sheet (Store e) q h first word_end word = absurd h.0

-- what the reader says of the rest of a text, said of the text
pub read_to : (text rest text' : List ℕ) (from : ℕ) (v : Vocabulary) (before after : Formula) → text' ≡ drop from text → from ≤ length text → formula.ReadInto text' v before after rest
    → (length rest ≤ length text) × ReadTo text from (given_action_names v) (given_property_names v) (length text - length rest) after
read_to text rest text' from v before after is low h =
    let P : List ℕ → Type 0 = λ t. formula.ReadInto t v before after rest in
    let r = subst P is h in
    let far = sheet_reaches (drop from text) (given_action_names v) (given_property_names v) r.content r.end r.sheet in
    let next = next_is text rest from r.end low far.1 r.remains in
    let low-rest : length rest ≤ length text = next.0 in
    let long : length (drop from text) ≡ length text - from = length-drop from text in (
      next.0,
      record {
        content = r.content;
        end = r.end;
        sheet = r.sheet;
        kept = r.place;
        behind = next.1;
        further = omega (arith, next.1, far.0);
        inside = omega (arith, next.1, far.1);
      },
    )

pub not_read : (text text' : List ℕ) (from : ℕ) (v : Vocabulary) (before after : Formula) (n at : ℕ) → text' ≡ drop from text
    → formula.Untouched text' v before after n at → formula.Refusal (drop from text) (given_action_names v) (given_property_names v) n at
not_read text text' from v before after n at is h =
    let P : List ℕ → Type 0 = λ t. formula.Refusal t (given_action_names v) (given_property_names v) n at in
    subst P is h.refusal

pub read_err : (text : List ℕ) (from : ℕ) (actions properties : List (List ℕ)) (place : Formula) {r : Result ℕ Fault} (d e : Fault) → r ≡ Err d → d ≡ e
    → formula.Refusal (drop from text) actions properties (number e) (position e) → ReadAt text from actions properties r place
read_err text from actions properties place d e is same h =
    let P : Result ℕ Fault → Type 0 = λ z. ReadAt text from actions properties z place in subst P (sym (is ∙ ap (λ z. Err z) same)) h

pub offset_low : (text text' : List ℕ) (from : ℕ) (v : Vocabulary) (before after : Formula) (n at : ℕ) → text' ≡ drop from text → length text ≤ text_limit → formula.Untouched text' v before after n at → at ≤ text_limit
offset_low text text' from v before after n at is short h =
    refused_inside _ text' _ n at (let long : length text' ≡ length text - from = ap length is ∙ length-drop from text in omega arith) h.refusal

pub misread : (text : List ℕ) (size from : ℕ) (m : Model) (c : model.Content) → Admissible c → m ≡ model_of c → (e : Fault)
    → formula.Refusal (drop from text) (given_action_names m.vocabulary) (given_property_names m.vocabulary) (number e) (position e) → Refused text size c from (Reading e)
misread text size from m c a keeps e h =
    let actions = ap action_names keeps ∙ (gives_back c a).actions in
    let properties = ap (λ z. given_property_names z.vocabulary) keeps ∙ (gives_back c a).properties in
    let P : List (List ℕ) → Type 0 = λ ws. formula.Refusal (drop from text) ws (given_property_names m.vocabulary) (number e) (position e) in
    let Q : List (List ℕ) → Type 0 = λ ws. formula.Refusal (drop from text) c.actions ws (number e) (position e) in
    record { offset = position e; refused = subst Q properties (subst P actions h); moved = refl }

pub laid_err : (text : List ℕ) (size : ℕ) (c : model.Content) (from : ℕ) {p q : Printer} {r : Result ℕ SheetFault} (d e : SheetFault)
    → r ≡ Err d → d ≡ e → Refused text size c from e → Lays p [] q → SheetLaid text size c from p r q
laid_err text size c from {p} {q} d e is same h none =
    let P : Result ℕ SheetFault → Type 0 = λ z. SheetLaid text size c from p z q in subst P (sym (is ∙ ap (λ z. Err z) same)) (h, none)
