-- Worked examples: three small programs, with their meaning and the machine's run, each computed by the prover from the
-- definitions. The items are written by hand as a generator would; cells and store extend a few words past the code.
use Rattle.std.specs.Prelude.{ℕ, ◌≡◌, true, false, List, [], ◌∷◌, ◌++◌, replicate, Some, None, refl}
use Rattle.bc_word.specs.declared.operator.Op.TheVariants.{Add, Subtract, Divide, Less, Equal}
use Rattle.bc_text_items.specs.declared.item.Item.{Item}
use Rattle.bc_text_items.specs.declared.item.Item.TheVariants.{Label, Operation, Global}
use Rattle.bc_text_items.specs.declared.item.Base.TheVariants.{Number, P, G}
use Rattle.bc_text_items.specs.declared.item.Base.TheVariants as bases
use Rattle.bc_text_items.specs.declared.item.Function.{Function}
use Rattle.bc_text_items.specs.declared.item.Function.TheVariants.{Load, Store, Add as Plus, Jump, JumpIfFalse, Call as Calls}
use Rattle.bc_text_items.specs.Assembled.{label_places}
use Rattle.bc_machine_defs.specs.declared.state.End.{End}
use Rattle.bc_machine_defs.specs.declared.state.End.TheVariants as ends
use Rattle.bc_machine_defs.specs.Streams.{Content}
use Rattle.bc_machine_defs.specs.StreamStart.{start_streams}
use Rattle.bc_machine_defs.specs.StreamCalls.{output_of}
use Rattle.bc_machine_defs.specs.State.{start}
use Rattle.bc_machine_defs.specs.Step.{step}
use Rattle.bc_machine_defs.specs.Run.{runs}
use Rattle.bc_core.specs.Tree.{Exp, Num, Frame, Glob, Place, Load as Content_of, Bin, Cond, Call, no_argument, argument}
use Rattle.bc_core.specs.Commands.{Initial, Block, block, Items, no_item, command, label, Gives, Does, Core, Code}
use Rattle.bc_core.specs.Commands as c
use Rattle.bc_core.specs.Outcome.{Finished, ZeroDivide}
use Rattle.bc_core.specs.WellFormed.{is_core}
use Rattle.bc_core.specs.Map.{placed, standing}
use Rattle.bc_core.specs.Start.{cells_from}
use Rattle.bc_core.specs.Meaning.{Result, Ended, entered_at, meaning_over}
use Rattle.bc_link.specs.Labels.{label_address}
use Rattle.bc_link.specs.Layout.{stack_base_of}
use Rattle.bc_link.specs.Refusals.{refusal_of}
use Rattle.bc_link.specs.Store.{boot, words_from, globals_of}
use Rattle.bc_gen_defs.specs.Emit.{execute}
use Rattle.bc_right.specs.programs.Linked.{library_items}

-- streams with one output, which is selected
abbrev streams : Content
streams = start_streams [] ((79 ∷ []) ∷ [])

abbrev printed : List ℕ → List (List ℕ)
printed bytes = bytes ∷ []

abbrev means : Core → List Item → Result
means core items =
    let program = placed (core ∷ []) (label_address (label_places 546 items) ∷ []) in
    meaning_over (cells_from 640 0 (standing program)) (entered_at program) (stack_base_of (library_items ∷ items ∷ [])) streams 100

-- the machine's end and output after n instructions
abbrev does : List Item → (n : ℕ) → End × List (List ℕ)
does items n =
    let segments = library_items ∷ items ∷ [] in
    let store = boot ++ replicate 5 0 ++ globals_of segments ++ words_from 520 segments ++ replicate 60 0 in
    let r = runs n (start store (stack_base_of segments) streams) in
    (r.1, output_of r.0.streams)

abbrev linked : List Item → Type 0
linked items = refusal_of (library_items ∷ items ∷ []) ≡ None

abbrev number : Function → ℕ → Item
number f n = Operation f false Number n

-- `SPk`, `LIPk`, `AIPk`, `LIGk`; `LLl`, `JLl`, `FLl`
abbrev hold : ℕ → Item
hold k = Operation Store false P k

abbrev take : ℕ → Item
take k = Operation Load true P k

abbrev plus : ℕ → Item
plus k = Operation Plus true P k

abbrev global : ℕ → Item
global k = Operation Load true G k

abbrev address : ℕ → Item
address l = Operation Load false bases.Label l

abbrev jump : ℕ → Item
jump l = Operation Jump false bases.Label l

abbrev jump_false : ℕ → Item
jump_false l = Operation JumpIfFalse false bases.Label l

abbrev at : ℕ → Exp
at k = Content_of (Frame k)

-- WRCH is global 14
abbrev print : Exp → c.Command
print e = c.Call (Call (argument e no_argument) (Content_of (Glob 14)))

-- `LET I = 0; L: I := I+1; IF I<3 GOTO L; WRCH(I + '0')`
abbrev with_goto : Core
with_goto = record {
  places =
      Code (record {
        global = Some 1;
        parameters = 0;
        body = Does (block ((Initial (Num 0) ∷ []) ∷ []) (label 0 (command (c.Assign (Bin Add (at 2) (Num 1)) (Frame 2))
            (command (c.If true (Bin Less (at 2) (Num 3)) (block [] (command (c.Goto 0) no_item))) (command (print (Bin Add (at 2) (Num 48))) no_item)))));
      }) ∷ [];
  valofs = [];
}

abbrev goto_items : List Item
goto_items =
    Label 1 ∷ number Load 0 ∷ hold 2 ∷
    Label 2 ∷ take 2 ∷ number Plus 1 ∷ hold 2 ∷
    take 2 ∷ number Load 3 ∷ execute 12 ∷ jump_false 3 ∷ jump 2 ∷ Label 3 ∷
    take 2 ∷ number Plus 48 ∷ hold 5 ∷ global 14 ∷ number Calls 3 ∷
    number Load 0 ∷ execute 4 ∷ Global 1 1 ∷ []

pub goto_fits : is_core with_goto ≡ true
goto_fits = refl

pub goto_linked : linked goto_items
goto_linked = refl

pub goto_means : means with_goto goto_items ≡ Ended (printed (51 ∷ [])) Finished
goto_means = refl

pub goto_does : does goto_items 50 ≡ (ends.Finished, printed (51 ∷ []))
unfolding runs step
goto_does = refl

-- `LET F(N) = N = 0 -> 0, N + F(N-1); WRCH(F(3) + '0')`
abbrev with_recursion : Core
with_recursion = record {
  places =
      Code (record {
        global = None;
        parameters = 1;
        body = Gives (Cond (Bin Equal (at 2) (Num 0)) (Num 0) (Bin Add (at 2) (Call (argument (Bin Subtract (at 2) (Num 1)) no_argument) (Place 1))));
      }) ∷
      Code (record {
        global = Some 1;
        parameters = 0;
        body = Does (block [] (command (print (Bin Add (Call (argument (Num 3) no_argument) (Place 1)) (Num 48))) no_item));
      }) ∷ [];
  valofs = [];
}

abbrev recursion_items : List Item
recursion_items =
    Label 1 ∷ take 2 ∷ number Load 0 ∷ execute 10 ∷ jump_false 3 ∷ number Load 0 ∷ jump 4 ∷ Label 3 ∷
    take 2 ∷ hold 3 ∷ take 2 ∷ number Plus 65535 ∷ hold 6 ∷ address 1 ∷ number Calls 4 ∷ plus 3 ∷ Label 4 ∷ execute 4 ∷
    Label 2 ∷ number Load 3 ∷ hold 7 ∷ address 1 ∷ number Calls 5 ∷ number Plus 48 ∷ hold 4 ∷ global 14 ∷ number Calls 2 ∷
    number Load 0 ∷ execute 4 ∷ Global 1 2 ∷ []

pub recursion_fits : is_core with_recursion ≡ true
recursion_fits = refl

pub recursion_linked : linked recursion_items
recursion_linked = refl

pub recursion_means : means with_recursion recursion_items ≡ Ended (printed (54 ∷ [])) Finished
recursion_means = refl

pub recursion_does : does recursion_items 90 ≡ (ends.Finished, printed (54 ∷ []))
unfolding runs step
recursion_does = refl

-- `WRCH('A'); WRCH(1/0)`
abbrev with_division : Core
with_division = record {
  places = Code (record {
    global = Some 1;
    parameters = 0;
    body = Does (block [] (command (print (Num 65)) (command (print (Bin Divide (Num 1) (Num 0))) no_item)));
  }) ∷ [];
  valofs = [];
}

abbrev division_items : List Item
division_items =
    Label 1 ∷ number Load 65 ∷ hold 4 ∷ global 14 ∷ number Calls 2 ∷
    number Load 1 ∷ number Load 0 ∷ execute 6 ∷ hold 4 ∷ global 14 ∷ number Calls 2 ∷
    number Load 0 ∷ execute 4 ∷ Global 1 1 ∷ []

pub division_fits : is_core with_division ≡ true
division_fits = refl

pub division_linked : linked division_items
division_linked = refl

pub division_means : means with_division division_items ≡ Ended (printed (65 ∷ [])) ZeroDivide
division_means = refl

pub division_does : does division_items 20 ≡ (ends.ZeroDivide, printed (65 ∷ []))
unfolding runs step
division_does = refl
