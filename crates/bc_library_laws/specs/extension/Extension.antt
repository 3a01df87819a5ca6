-- EXTLIB as a resolved section. Its statics have the labels 1 to 5; the table of KEPT has 7, the strings 20 to 22.
use Rattle.std.specs.Prelude.{ℕ, zero, suc, List, [], ◌∷◌, ◌++◌, codes}
use Rattle.bc_core.specs.Commands.{Code, Static, Table, Text, Block, Valof, Core}
use Rattle.bc_library_laws.specs.extension.Routines.{kept, rdch, unrdch, selectinput, selectoutput, input, output, endread, endwrite, nameagain, findinput, isfresh, rewind, readn, putnumber, writed, writeu, writeoct, writeo, writehex, newpage, writet, capitalch, compch, compstring, packstring, unpackstring, widthof, putpart, writef, endsitem, packitem, readitem, keynumber, putkeys, isunfilled, nextkey, takeitems, rdargs, initvec, getvec, freevec, isbelow, adddouble, putproduct, dividedouble, magnitude, muldiv, random, randomise, stop, testflags, time, mapstore}
use Rattle.bc_library_laws.specs.extension.Routines.{kept_body, rdch_body, unrdch_body, nameagain_body, findinput_body, isfresh_body, readn_body, compstring_body, packstring_body, widthof_body, putpart_body, endsitem_body, packitem_body, readitem_body, keynumber_body, putkeys_body, nextkey_body, takeitems_body, rdargs_body, getvec_body, muldiv_body, random_body}

-- the words of KEPT's table, four for each of n inputs
abbrev pub fresh_inputs : ℕ → List ℕ
fresh_inputs zero = []
fresh_inputs (suc n) = 65534 ∷ 0 ∷ 0 ∷ 0 ∷ fresh_inputs n

-- what REWIND writes
abbrev pub not_found : List ℕ
not_found = 10 ∷ codes "REWIND: an input that FINDINPUT didn't find" ++ 10 ∷ []

abbrev pub not_connected : List ℕ
not_connected = 10 ∷ codes "REWIND: connect the file of %S once more, as %S.2, or .3 and so on" ++ 10 ∷ []

-- the VALOF whose body is this block, at this level
abbrev pub valof : ℕ → Block → Valof
valof level body = record { level = level; body = body }

-- the section
unfoldable pub extension : Core
extension = record {
  places = Static 1 ∷ Static 1 ∷ Static 0 ∷ Static 1 ∷ Static 0 ∷ Code kept ∷ Table (fresh_inputs 32) ∷ Code rdch ∷ Code unrdch
      ∷ Code selectinput ∷ Code selectoutput ∷ Code input ∷ Code output ∷ Code endread ∷ Code endwrite ∷ Code nameagain
      ∷ Code findinput ∷ Code isfresh ∷ Code rewind ∷ Text (codes "SYSIN") ∷ Text not_found ∷ Text not_connected ∷ Code readn
      ∷ Code putnumber ∷ Code writed ∷ Code writeu ∷ Code writeoct ∷ Code writeo ∷ Code writehex ∷ Code newpage ∷ Code writet
      ∷ Code capitalch ∷ Code compch ∷ Code compstring ∷ Code packstring ∷ Code unpackstring ∷ Code widthof ∷ Code putpart
      ∷ Code writef ∷ Code endsitem ∷ Code packitem ∷ Code readitem ∷ Code keynumber ∷ Code putkeys ∷ Code isunfilled
      ∷ Code nextkey ∷ Code takeitems ∷ Code rdargs ∷ Code initvec ∷ Code getvec ∷ Code freevec ∷ Code isbelow
      ∷ Code adddouble ∷ Code putproduct ∷ Code dividedouble ∷ Code magnitude ∷ Code muldiv ∷ Code random ∷ Code randomise
      ∷ Code stop ∷ Code testflags ∷ Code time ∷ Code mapstore ∷ [];
  valofs = valof 3 kept_body ∷ valof 2 rdch_body ∷ valof 2 unrdch_body ∷ valof 5 nameagain_body ∷ valof 3 findinput_body
      ∷ valof 3 isfresh_body ∷ valof 2 readn_body ∷ valof 4 compstring_body ∷ valof 4 packstring_body ∷ valof 3 widthof_body
      ∷ valof 6 putpart_body ∷ valof 3 endsitem_body ∷ valof 5 packitem_body ∷ valof 4 readitem_body ∷ valof 4 keynumber_body
      ∷ valof 5 putkeys_body ∷ valof 4 nextkey_body ∷ valof 6 takeitems_body ∷ valof 5 rdargs_body ∷ valof 3 getvec_body
      ∷ valof 5 muldiv_body ∷ valof 3 random_body ∷ [];
}
