-- The texts of EXTHDR and EXTLIB.
use Rattle.std.specs.Prelude.{ℕ, List, [], ◌∷◌, ◌++◌, codes}
use Rattle.bc_lex.specs.Files.{File}

-- these lines, each with its line break
abbrev joined : List (List ℕ) → List ℕ
joined [] = []
joined (line ∷ lines) = line ++ 10 ∷ joined lines

-- the text of EXTHDR
abbrev pub header : List ℕ
header = joined (
    codes "// The header of the further library EXTLIB. It gets LIBHDR; of the names that both have, these are the ones that count." ∷
    codes "GET \"LIBHDR\"" ∷
    codes "" ∷
    codes "GLOBAL $(" ∷
    codes "WRITEF:30; WRITED:31; WRITEU:32; WRITEOCT:33; WRITEHEX:34; WRITET:35; NEWPAGE:36" ∷
    codes "READN:37; TERMINATOR:38; UNRDCH:39; RDCH:40" ∷
    codes "SELECTINPUT:41; SELECTOUTPUT:42; INPUT:43; OUTPUT:44; ENDREAD:45; ENDWRITE:46" ∷
    codes "PACKSTRING:47; UNPACKSTRING:48; CAPITALCH:49; COMPSTRING:50" ∷
    codes "INITVEC:51; GETVEC:52; FREEVEC:53" ∷
    codes "MULDIV:54; RESULT2:55; RANDOM:56; RANDOMISE:57; STOP:58" ∷
    codes "FINDINPUT:92; REWIND:93; WRITEO:94; RDARGS:95; TESTFLAGS:96; COMPCH:97; TIME:98; MAPSTORE:99" ∷
    codes "$)" ∷
    codes "" ∷
    codes "MANIFEST $( FIRSTFREEGLOBAL=100; BYTESPERWORD=2; MAXINT=32767; MININT=#X8000 $)" ∷ [])

-- the text of EXTLIB
abbrev pub source : List ℕ
source = joined (
    codes "// A further library, after BLIB. A program that gets EXTHDR calls these routines; each is described in docs/library.md." ∷
    codes "GET \"EXTHDR\"" ∷
    codes "" ∷
    codes "// The primitives that routines of this file replace, under the names by which these call them." ∷
    codes "GLOBAL $( PRIMITIVE.SELECTINPUT:11; PRIMITIVE.SELECTOUTPUT:12; PRIMITIVE.RDCH:13" ∷
    codes "PRIMITIVE.FINDINPUT:15; PRIMITIVE.ENDREAD:17; PRIMITIVE.ENDWRITE:18 $)" ∷
    codes "" ∷
    codes "MANIFEST $(" ∷
    codes "NOTHING = -2           // in place of a character: none has been read" ∷
    codes "LASTSTREAM = 31        // the greatest number of an input whose last character is kept" ∷
    codes "ISENDED = 2            // of the words that KEPT keeps: whether ENDREAD ended the input," ∷
    codes "NAMED = 3              // and the string by which FINDINPUT found it, or 0" ∷
    codes "LASTTIME = 9           // how often an input may be read" ∷
    codes "REQUIRED = 1           // the letters A, K and S of a key," ∷
    codes "KEYED = 2" ∷
    codes "SWITCH = 4" ∷
    codes "UNFILLED = 7           // and their sum, which is below all addresses" ∷
    codes "WORDITEM = 1           // what READITEM finds" ∷
    codes "QUOTEDITEM = 2" ∷
    codes "EQUALSITEM = 3" ∷
    codes "LINEEND = 4" ∷
    codes "NOITEM = 5" ∷
    codes "$)" ∷
    codes "" ∷
    codes "STATIC $(" ∷
    codes "INPUTNOW = 1           // the numbers of the selected streams" ∷
    codes "OUTPUTNOW = 1" ∷
    codes "POOL = 0               // where GETVEC's first block begins, or 0" ∷
    codes "SEED = 1               // of RANDOM, never 0" ∷
    codes "ARGUMENTCH = 0         // the next character of RDARGS" ∷
    codes "$)" ∷
    codes "" ∷
    codes "// ---- Streams" ∷
    codes "" ∷
    codes "// Four words for each input: its last character, whether RDCH gives that once more, and those with names above." ∷
    codes "LET KEPT(N) = VALOF" ∷
    codes "$( LET CELLS = TABLE -2,0,0,0, -2,0,0,0, -2,0,0,0, -2,0,0,0, -2,0,0,0, -2,0,0,0, -2,0,0,0, -2,0,0,0," ∷
    codes "                     -2,0,0,0, -2,0,0,0, -2,0,0,0, -2,0,0,0, -2,0,0,0, -2,0,0,0, -2,0,0,0, -2,0,0,0," ∷
    codes "                     -2,0,0,0, -2,0,0,0, -2,0,0,0, -2,0,0,0, -2,0,0,0, -2,0,0,0, -2,0,0,0, -2,0,0,0," ∷
    codes "                     -2,0,0,0, -2,0,0,0, -2,0,0,0, -2,0,0,0, -2,0,0,0, -2,0,0,0, -2,0,0,0, -2,0,0,0" ∷
    codes "   RESULTIS N<1 | N>LASTSTREAM -> 0, CELLS + 4*N $)" ∷
    codes "" ∷
    codes "AND RDCH() = VALOF" ∷
    codes "$( LET P = KEPT(INPUTNOW)" ∷
    codes "   IF P=0 RESULTIS PRIMITIVE.RDCH()" ∷
    codes "   TEST P!1 THEN P!1 := FALSE ELSE !P := PRIMITIVE.RDCH()" ∷
    codes "   RESULTIS !P $)" ∷
    codes "" ∷
    codes "AND UNRDCH() = VALOF" ∷
    codes "$( LET P = KEPT(INPUTNOW)" ∷
    codes "   IF P=0 RESULTIS FALSE" ∷
    codes "   IF !P=NOTHING | P!1 RESULTIS FALSE" ∷
    codes "   P!1 := TRUE" ∷
    codes "   RESULTIS TRUE $)" ∷
    codes "" ∷
    codes "AND SELECTINPUT(N) BE" ∷
    codes "$( PRIMITIVE.SELECTINPUT(N)" ∷
    codes "   INPUTNOW := N $)" ∷
    codes "" ∷
    codes "AND SELECTOUTPUT(N) BE" ∷
    codes "$( PRIMITIVE.SELECTOUTPUT(N)" ∷
    codes "   OUTPUTNOW := N $)" ∷
    codes "" ∷
    codes "AND INPUT() = INPUTNOW" ∷
    codes "" ∷
    codes "AND OUTPUT() = OUTPUTNOW" ∷
    codes "" ∷
    codes "AND ENDREAD() BE" ∷
    codes "$( LET P = KEPT(INPUTNOW)" ∷
    codes "   UNLESS P=0 DO P!0, P!1, P!ISENDED := NOTHING, FALSE, TRUE" ∷
    codes "   PRIMITIVE.ENDREAD()" ∷
    codes "   INPUTNOW := 0 $)" ∷
    codes "" ∷
    codes "AND ENDWRITE() BE" ∷
    codes "$( PRIMITIVE.ENDWRITE()" ∷
    codes "   OUTPUTNOW := 0 $)" ∷
    codes "" ∷
    codes "// Packs into V the name S with a dot and a digit after it, and gives V." ∷
    codes "AND NAMEAGAIN(S, DIGIT, V) = VALOF" ∷
    codes "$( LET N = GETBYTE(S,0)" ∷
    codes "   FOR I = 0 TO (N+2)>>1 DO V!I := 0" ∷
    codes "   FOR I = 1 TO N DO PUTBYTE(V, I, GETBYTE(S,I))" ∷
    codes "   PUTBYTE(V, N+1, '.'); PUTBYTE(V, N+2, '0'+DIGIT)" ∷
    codes "   PUTBYTE(V, 0, N+2)" ∷
    codes "   RESULTIS V $)" ∷
    codes "" ∷
    codes "// An input can't be read twice, so the file is connected again, as DATA.2 after DATA. Gives the first one that wasn't ended, or the" ∷
    codes "// last one that is connected." ∷
    codes "AND FINDINPUT(S) = VALOF" ∷
    codes "$( LET V = VEC 127 AND N = PRIMITIVE.FINDINPUT(S)" ∷
    codes "   FOR I = 2 TO LASTTIME+1 DO" ∷
    codes "   $( LET P, AGAIN = KEPT(N), 0" ∷
    codes "      IF P=0 RESULTIS N" ∷
    codes "      P!NAMED := S" ∷
    codes "      IF NOT P!ISENDED | I>LASTTIME | GETBYTE(S,0)>253 RESULTIS N" ∷
    codes "      AGAIN := PRIMITIVE.FINDINPUT(NAMEAGAIN(S, I, V))" ∷
    codes "      IF AGAIN=0 RESULTIS N" ∷
    codes "      N := AGAIN $)" ∷
    codes "   RESULTIS N $)" ∷
    codes "" ∷
    codes "AND ISFRESH(N) = VALOF" ∷
    codes "$( LET P = KEPT(N)" ∷
    codes "   RESULTIS P=0 -> TRUE, NOT P!ISENDED $)" ∷
    codes "" ∷
    codes "AND REWIND() BE" ∷
    codes "$( LET P, S, NONE = KEPT(INPUTNOW), 0, 0" ∷
    codes "   IF INPUTNOW=0 RETURN" ∷
    codes "   UNLESS P=0 DO" ∷
    codes "   $( IF !P=NOTHING & NOT P!ISENDED RETURN" ∷
    codes "      S := P!NAMED=0 & INPUTNOW=1 -> \"SYSIN\", P!NAMED $)" ∷
    codes "   UNLESS S=0 DO" ∷
    codes "   $( LET N = 0" ∷
    codes "      ENDREAD()" ∷
    codes "      N := FINDINPUT(S)" ∷
    codes "      IF ISFRESH(N) DO $( SELECTINPUT(N); RETURN $) $)" ∷
    codes "   SELECTOUTPUT(1)" ∷
    codes "   TEST S=0 THEN WRITES(\"*NREWIND: an input that FINDINPUT didn't find*N\")" ∷
    codes "   ELSE WRITEF(\"*NREWIND: connect the file of %S once more, as %S.2, or .3 and so on*N\", S, S)" ∷
    codes "   NONE := 1/NONE $)" ∷
    codes "" ∷
    codes "// ---- Numbers in and out" ∷
    codes "" ∷
    codes "AND READN() = VALOF" ∷
    codes "$( LET SUM, NEGATIVE = 0, FALSE" ∷
    codes "   TERMINATOR := RDCH() REPEATWHILE TERMINATOR='*S' | TERMINATOR='*T' | TERMINATOR='*N' |" ∷
    codes "                                    TERMINATOR='*C' | TERMINATOR='*P'" ∷
    codes "   IF TERMINATOR='-' | TERMINATOR='+' DO" ∷
    codes "   $( NEGATIVE := TERMINATOR='-'" ∷
    codes "      TERMINATOR := RDCH() $)" ∷
    codes "   WHILE '0'<=TERMINATOR & TERMINATOR<='9' DO" ∷
    codes "   $( SUM := 10*SUM + TERMINATOR - '0'" ∷
    codes "      TERMINATOR := RDCH() $)" ∷
    codes "   RESULTIS NEGATIVE -> -SUM, SUM $)" ∷
    codes "" ∷
    codes "// Writes N, read unsigned, with a sign in front where it is wanted, to the right of a field." ∷
    codes "AND PUTNUMBER(N, HASSIGN, WIDTH) BE" ∷
    codes "$( LET DIGITS = VEC 4" ∷
    codes "   LET COUNT = 0" ∷
    codes "   $( LET QUOTIENT = (N>>1)/5" ∷
    codes "      DIGITS!COUNT := N - 10*QUOTIENT" ∷
    codes "      COUNT := COUNT + 1" ∷
    codes "      N := QUOTIENT $) REPEATUNTIL N=0" ∷
    codes "   FOR I = COUNT + (HASSIGN -> 1, 0) + 1 TO WIDTH DO WRCH('*S')" ∷
    codes "   IF HASSIGN DO WRCH('-')" ∷
    codes "   FOR I = COUNT-1 TO 0 BY -1 DO WRCH('0' + DIGITS!I) $)" ∷
    codes "" ∷
    codes "AND WRITED(N, WIDTH) BE TEST N<0 THEN PUTNUMBER(-N, TRUE, WIDTH) ELSE PUTNUMBER(N, FALSE, WIDTH)" ∷
    codes "" ∷
    codes "AND WRITEU(N, WIDTH) BE PUTNUMBER(N, FALSE, WIDTH)" ∷
    codes "" ∷
    codes "AND WRITEOCT(N, COUNT) BE FOR I = COUNT-1 TO 0 BY -1 DO WRCH('0' + ((N>>(3*I)) & 7))" ∷
    codes "" ∷
    codes "AND WRITEO(N) BE" ∷
    codes "$( UNLESS (N>>3)=0 DO WRITEO(N>>3)" ∷
    codes "   WRCH('0' + (N&7)) $)" ∷
    codes "" ∷
    codes "AND WRITEHEX(N, COUNT) BE FOR I = COUNT-1 TO 0 BY -1 DO" ∷
    codes "$( LET DIGIT = (N>>(4*I)) & 15" ∷
    codes "   WRCH(DIGIT<10 -> '0'+DIGIT, 'A'-10+DIGIT) $)" ∷
    codes "" ∷
    codes "AND NEWPAGE() BE WRCH('*P')" ∷
    codes "" ∷
    codes "// ---- Strings and characters" ∷
    codes "" ∷
    codes "AND WRITET(S, WIDTH) BE" ∷
    codes "$( WRITES(S)" ∷
    codes "   FOR I = GETBYTE(S,0)+1 TO WIDTH DO WRCH('*S') $)" ∷
    codes "" ∷
    codes "AND CAPITALCH(C) = 'a'<=C & C<='z' -> C-'a'+'A', C" ∷
    codes "" ∷
    codes "AND COMPCH(A, B) = CAPITALCH(A) - CAPITALCH(B)" ∷
    codes "" ∷
    codes "AND COMPSTRING(S, T) = VALOF" ∷
    codes "$( LET M, N = GETBYTE(S,0), GETBYTE(T,0)" ∷
    codes "   FOR I = 1 TO (M<N -> M, N) DO" ∷
    codes "   $( LET A, B = CAPITALCH(GETBYTE(S,I)), CAPITALCH(GETBYTE(T,I))" ∷
    codes "      UNLESS A=B RESULTIS A<B -> -1, 1 $)" ∷
    codes "   RESULTIS M=N -> 0, (M<N -> -1, 1) $)" ∷
    codes "" ∷
    codes "AND PACKSTRING(V, S) = VALOF" ∷
    codes "$( LET N = V!0 & 255" ∷
    codes "   FOR I = 0 TO N>>1 DO S!I := 0" ∷
    codes "   PUTBYTE(S, 0, N)" ∷
    codes "   FOR I = 1 TO N DO PUTBYTE(S, I, V!I)" ∷
    codes "   RESULTIS N>>1 $)" ∷
    codes "" ∷
    codes "AND UNPACKSTRING(S, V) BE FOR I = 0 TO GETBYTE(S,0) DO V!I := GETBYTE(S,I)" ∷
    codes "" ∷
    codes "// The width that a letter or a digit of a format means." ∷
    codes "AND WIDTHOF(C) = VALOF" ∷
    codes "$( LET CAPITAL = CAPITALCH(C)" ∷
    codes "   IF '0'<=C & C<='9' RESULTIS C-'0'" ∷
    codes "   IF 'A'<=CAPITAL & CAPITAL<='Z' RESULTIS CAPITAL-'A'+10" ∷
    codes "   RESULTIS 0 $)" ∷
    codes "" ∷
    codes "// Writes the part of a format from I on, up to the sign that closes it, where it is wanted. Gives the place after that sign." ∷
    codes "AND PUTPART(F, I, CLOSE, ISWANTED) = VALOF" ∷
    codes "$( UNTIL I>GETBYTE(F,0) DO" ∷
    codes "   $( LET C = GETBYTE(F,I)" ∷
    codes "      IF C=CLOSE RESULTIS I+1" ∷
    codes "      IF ISWANTED DO WRCH(C)" ∷
    codes "      I := I+1 $)" ∷
    codes "   RESULTIS I $)" ∷
    codes "" ∷
    codes "AND WRITEF(F, A1, A2, A3, A4, A5, A6, A7, A8, A9, A10, A11) BE" ∷
    codes "$( LET T, I, N = @A1, 1, GETBYTE(F,0)" ∷
    codes "   UNTIL I>N DO" ∷
    codes "   $( LET C = GETBYTE(F,I)" ∷
    codes "      I := I+1" ∷
    codes "      TEST C NE '%' | I>N THEN WRCH(C)" ∷
    codes "      ELSE" ∷
    codes "      $( LET WIDTH = I<N -> WIDTHOF(GETBYTE(F,I+1)), 0" ∷
    codes "         LET TAKEN = 1" ∷
    codes "         I := I+1" ∷
    codes "         SWITCHON CAPITALCH(GETBYTE(F,I-1)) INTO" ∷
    codes "         $( CASE 'N': WRITEN(!T); ENDCASE" ∷
    codes "            CASE 'S': WRITES(!T); ENDCASE" ∷
    codes "            CASE 'C': WRCH(!T); ENDCASE" ∷
    codes "            CASE 'I': WRITED(!T, WIDTH); I := I+1; ENDCASE" ∷
    codes "            CASE 'U': WRITEU(!T, WIDTH); I := I+1; ENDCASE" ∷
    codes "            CASE 'O': WRITEOCT(!T, WIDTH); I := I+1; ENDCASE" ∷
    codes "            CASE 'X': WRITEHEX(!T, WIDTH); I := I+1; ENDCASE" ∷
    codes "            CASE 'T': WRITET(!T, WIDTH); I := I+1; ENDCASE" ∷
    codes "            CASE 'P': IF I<=N DO" ∷
    codes "                      $( LET CLOSE = GETBYTE(F,I)" ∷
    codes "                         I := PUTPART(F, I+1, CLOSE, !T=1)" ∷
    codes "                         I := PUTPART(F, I, CLOSE, !T NE 1) $)" ∷
    codes "                      ENDCASE" ∷
    codes "            CASE '+': ENDCASE" ∷
    codes "            CASE '-': TAKEN := -1; ENDCASE" ∷
    codes "            DEFAULT: TAKEN := 0; WRCH(GETBYTE(F,I-1)) $)" ∷
    codes "         T := T+TAKEN $) $) $)" ∷
    codes "" ∷
    codes "// ---- Arguments" ∷
    codes "" ∷
    codes "// Whether a character ends an item that has no quotes." ∷
    codes "AND ENDSITEM(CH) = VALOF SWITCHON CH INTO" ∷
    codes "$( CASE '*S': CASE '*T': CASE '*C': CASE '*N': CASE ';': CASE '=': CASE ENDSTREAMCH: RESULTIS TRUE" ∷
    codes "   DEFAULT: RESULTIS FALSE $)" ∷
    codes "" ∷
    codes "// Packs an item into V, which has the cells 0 to UPB. ARGUMENTCH is its first character, and then the one after it. Gives FALSE if there" ∷
    codes "// are too many characters." ∷
    codes "AND PACKITEM(V, UPB, ISQUOTED) = VALOF" ∷
    codes "$( LET N = 0" ∷
    codes "   IF UPB<0 RESULTIS FALSE" ∷
    codes "   V!0 := 0" ∷
    codes "   UNTIL ISQUOTED -> ARGUMENTCH='*\"' | ARGUMENTCH='*N' | ARGUMENTCH=ENDSTREAMCH, ENDSITEM(ARGUMENTCH) DO" ∷
    codes "   $( LET CH = ARGUMENTCH" ∷
    codes "      IF ISQUOTED & CH='**' DO" ∷
    codes "      $( ARGUMENTCH := RDCH()" ∷
    codes "         IF ARGUMENTCH='*N' | ARGUMENTCH=ENDSTREAMCH RESULTIS FALSE" ∷
    codes "         CH := CAPITALCH(ARGUMENTCH)='N' -> '*N', ARGUMENTCH $)" ∷
    codes "      N := N+1" ∷
    codes "      IF N>255 | (N>>1)>UPB RESULTIS FALSE" ∷
    codes "      V!(N>>1) := (N&1)=0 -> CH<<8, V!(N>>1) | CH" ∷
    codes "      ARGUMENTCH := RDCH() $)" ∷
    codes "   V!0 := V!0 | (N<<8)" ∷
    codes "   RESULTIS TRUE $)" ∷
    codes "" ∷
    codes "// Takes an item of a line into V, which has the cells 0 to UPB, and gives what it is." ∷
    codes "AND READITEM(V, UPB) = VALOF" ∷
    codes "$( WHILE ARGUMENTCH='*S' | ARGUMENTCH='*T' | ARGUMENTCH='*C' DO ARGUMENTCH := RDCH()" ∷
    codes "   SWITCHON ARGUMENTCH INTO" ∷
    codes "   $( CASE '*N': CASE ';': CASE ENDSTREAMCH: RESULTIS LINEEND" ∷
    codes "      CASE '=': ARGUMENTCH := RDCH()" ∷
    codes "                RESULTIS EQUALSITEM" ∷
    codes "      CASE '*\"': ARGUMENTCH := RDCH()" ∷
    codes "                 UNLESS PACKITEM(V, UPB, TRUE) & ARGUMENTCH='*\"' RESULTIS NOITEM" ∷
    codes "                 ARGUMENTCH := RDCH()" ∷
    codes "                 RESULTIS QUOTEDITEM" ∷
    codes "      DEFAULT: RESULTIS PACKITEM(V, UPB, FALSE) -> WORDITEM, NOITEM $) $)" ∷
    codes "" ∷
    codes "// The number of the key that the string S is, or -1." ∷
    codes "AND KEYNUMBER(KEYS, S) = VALOF" ∷
    codes "$( LET KEY, I, N = 0, 1, GETBYTE(KEYS,0)" ∷
    codes "   UNTIL I>N DO" ∷
    codes "   $( LET J, CH, ISTHIS = 1, 0, TRUE" ∷
    codes "      UNTIL I>N DO" ∷
    codes "      $( CH := GETBYTE(KEYS,I)" ∷
    codes "         IF CH=',' | CH='/' | CH='=' BREAK" ∷
    codes "         IF J>GETBYTE(S,0) -> TRUE, COMPCH(CH, GETBYTE(S,J)) NE 0 DO ISTHIS := FALSE" ∷
    codes "         I, J := I+1, J+1 $)" ∷
    codes "      IF ISTHIS & J>GETBYTE(S,0) RESULTIS KEY" ∷
    codes "      UNTIL I>N | CH=',' | CH='=' DO" ∷
    codes "      $( I := I+1" ∷
    codes "         UNLESS I>N DO CH := GETBYTE(KEYS,I) $)" ∷
    codes "      IF CH=',' DO KEY := KEY+1" ∷
    codes "      I := I+1 $)" ∷
    codes "   RESULTIS -1 $)" ∷
    codes "" ∷
    codes "// Sets a cell of V for each key to the sum of its letters. Gives the number of keys, or 0 if V has too few cells." ∷
    codes "AND PUTKEYS(KEYS, V, UPB) = VALOF" ∷
    codes "$( LET N = 0" ∷
    codes "   IF UPB<0 RESULTIS 0" ∷
    codes "   V!0 := 0" ∷
    codes "   FOR I = 1 TO GETBYTE(KEYS,0) DO" ∷
    codes "   $( LET CH = CAPITALCH(GETBYTE(KEYS,I))" ∷
    codes "      IF CH=',' DO" ∷
    codes "      $( N := N+1" ∷
    codes "         IF N>UPB RESULTIS 0" ∷
    codes "         V!N := 0 $)" ∷
    codes "      IF I>1 -> GETBYTE(KEYS,I-1)='/', FALSE DO" ∷
    codes "         V!N := V!N | (CH='A' -> REQUIRED, CH='K' -> KEYED, CH='S' -> SWITCH, 0) $)" ∷
    codes "   RESULTIS N+1 $)" ∷
    codes "" ∷
    codes "AND ISUNFILLED(VALUE) = 0<=VALUE & VALUE<=UNFILLED" ∷
    codes "" ∷
    codes "// The number of the first of N keys whose value may come without the key, or -1." ∷
    codes "AND NEXTKEY(V, N) = VALOF" ∷
    codes "$( FOR I = 0 TO N-1 DO IF ISUNFILLED(V!I) & (V!I & (KEYED+SWITCH))=0 RESULTIS I" ∷
    codes "   RESULTIS -1 $)" ∷
    codes "" ∷
    codes "// Takes items up to the line's end into V, of which the first COUNT cells have the letters of the keys. Gives the address after the last" ∷
    codes "// one, or 0 if they aren't those that the keys ask for." ∷
    codes "AND TAKEITEMS(KEYS, V, COUNT, LAST) = VALOF" ∷
    codes "$( LET FREE = V+COUNT" ∷
    codes "   ARGUMENTCH := RDCH()" ∷
    codes "   $( LET ITEM, KEY = READITEM(FREE, LAST-FREE), -1" ∷
    codes "      IF ITEM=LINEEND BREAK" ∷
    codes "      IF ITEM=WORDITEM DO KEY := KEYNUMBER(KEYS, FREE)" ∷
    codes "      TEST KEY<0 THEN KEY := NEXTKEY(V, COUNT)" ∷
    codes "      ELSE" ∷
    codes "      $( UNLESS ISUNFILLED(V!KEY) RESULTIS 0" ∷
    codes "         IF (V!KEY & SWITCH) NE 0 DO $( V!KEY := TRUE; LOOP $)" ∷
    codes "         ITEM := READITEM(FREE, LAST-FREE)" ∷
    codes "         IF ITEM=EQUALSITEM DO ITEM := READITEM(FREE, LAST-FREE) $)" ∷
    codes "      UNLESS KEY>=0 & (ITEM=WORDITEM | ITEM=QUOTEDITEM) RESULTIS 0" ∷
    codes "      V!KEY := FREE" ∷
    codes "      FREE := FREE + (GETBYTE(FREE,0)>>1) + 1 $) REPEAT" ∷
    codes "   FOR I = 0 TO COUNT-1 DO IF ISUNFILLED(V!I) DO" ∷
    codes "   $( IF (V!I & REQUIRED) NE 0 RESULTIS 0" ∷
    codes "      V!I := 0 $)" ∷
    codes "   RESULTIS FREE $)" ∷
    codes "" ∷
    codes "AND RDARGS(KEYS, V, UPB) = VALOF" ∷
    codes "$( LET COUNT, FREE = PUTKEYS(KEYS, V, UPB), 0" ∷
    codes "   UNLESS COUNT=0 DO FREE := TAKEITEMS(KEYS, V, COUNT, V+UPB)" ∷
    codes "   IF COUNT=0 DO ARGUMENTCH := RDCH()" ∷
    codes "   UNTIL ARGUMENTCH='*N' | ARGUMENTCH=';' | ARGUMENTCH=ENDSTREAMCH DO ARGUMENTCH := RDCH()" ∷
    codes "   RESULTIS FREE $)" ∷
    codes "" ∷
    codes "// ---- Vectors" ∷
    codes "// A pool is a row of blocks, and after the last one a 0. The first word of a block has its size, an even number of words, and one" ∷
    codes "// more where the block is in use." ∷
    codes "" ∷
    codes "AND INITVEC(V, UPB) BE" ∷
    codes "$( LET SIZE = UPB & #XFFFE" ∷
    codes "   TEST SIZE=0 THEN POOL := 0" ∷
    codes "   ELSE $( POOL := V; V!0 := SIZE; V!SIZE := 0 $) $)" ∷
    codes "" ∷
    codes "AND GETVEC(UPB) = VALOF" ∷
    codes "$( LET SIZE = (UPB+3) & #XFFFE" ∷
    codes "   LET P = POOL" ∷
    codes "   IF P=0 | UPB<0 | UPB>32764 RESULTIS 0" ∷
    codes "   UNTIL !P=0 DO" ∷
    codes "   $( IF (!P & 1)=0 DO" ∷
    codes "      $( UNTIL P!(!P)=0 | (P!(!P) & 1)=1 DO !P := !P + P!(!P)" ∷
    codes "         IF !P>=SIZE DO" ∷
    codes "         $( UNLESS !P=SIZE DO P!SIZE := !P - SIZE" ∷
    codes "            !P := SIZE+1" ∷
    codes "            RESULTIS P+1 $) $)" ∷
    codes "      P := P + (!P & #XFFFE) $)" ∷
    codes "   RESULTIS 0 $)" ∷
    codes "" ∷
    codes "AND FREEVEC(V) BE UNLESS V=0 DO (V-1)!0 := (V-1)!0 & #XFFFE" ∷
    codes "" ∷
    codes "// ---- Arithmetic" ∷
    codes "" ∷
    codes "// Whether A is less than B, both read unsigned." ∷
    codes "AND ISBELOW(A, B) = (A NEQV #X8000) < (B NEQV #X8000)" ∷
    codes "" ∷
    codes "// A and B are double words, the high word first: B is added to A." ∷
    codes "AND ADDDOUBLE(A, B) BE" ∷
    codes "$( A!1 := A!1 + B!1" ∷
    codes "   A!0 := A!0 + B!0 + (ISBELOW(A!1, B!1) -> 1, 0) $)" ∷
    codes "" ∷
    codes "// The product of A and B, read unsigned, becomes the double word P." ∷
    codes "AND PUTPRODUCT(P, A, B) BE" ∷
    codes "$( LET FACTOR = VEC 1" ∷
    codes "   P!0, P!1 := 0, 0" ∷
    codes "   FACTOR!0, FACTOR!1 := 0, A" ∷
    codes "   UNTIL B=0 DO" ∷
    codes "   $( IF (B&1)=1 DO ADDDOUBLE(P, FACTOR)" ∷
    codes "      FACTOR!0 := (FACTOR!0<<1) | (FACTOR!1>>15)" ∷
    codes "      FACTOR!1 := FACTOR!1<<1" ∷
    codes "      B := B>>1 $) $)" ∷
    codes "" ∷
    codes "// The double word P is divided by C, all read unsigned: P!1 is then the low word of the quotient, and P!0 the remainder." ∷
    codes "AND DIVIDEDOUBLE(P, C) BE" ∷
    codes "$( LET HIGH, LOW, CARRY = P!0, P!1, 0" ∷
    codes "   LET REST = 0" ∷
    codes "   FOR I = 1 TO 32 DO" ∷
    codes "   $( CARRY := REST>>15" ∷
    codes "      REST := (REST<<1) | (HIGH>>15)" ∷
    codes "      HIGH := (HIGH<<1) | (LOW>>15)" ∷
    codes "      LOW := LOW<<1" ∷
    codes "      IF CARRY=1 | NOT ISBELOW(REST, C) DO $( REST := REST-C; LOW := LOW|1 $) $)" ∷
    codes "   P!0, P!1 := REST, LOW $)" ∷
    codes "" ∷
    codes "AND MAGNITUDE(N) = N<0 -> -N, N" ∷
    codes "" ∷
    codes "AND MULDIV(A, B, C) = VALOF" ∷
    codes "$( LET P = VEC 1" ∷
    codes "   IF C=0 RESULTIS A/C" ∷
    codes "   PUTPRODUCT(P, MAGNITUDE(A), MAGNITUDE(B))" ∷
    codes "   DIVIDEDOUBLE(P, MAGNITUDE(C))" ∷
    codes "   RESULT2 := (A NEQV B)<0 -> -P!0, P!0" ∷
    codes "   RESULTIS (A NEQV B NEQV C)<0 -> -P!1, P!1 $)" ∷
    codes "" ∷
    codes "// ---- Chance" ∷
    codes "" ∷
    codes "AND RANDOM(N) = VALOF" ∷
    codes "$( LET P = VEC 1" ∷
    codes "   IF N<1 RESULTIS 0" ∷
    codes "   SEED := SEED NEQV (SEED<<7)" ∷
    codes "   SEED := SEED NEQV (SEED>>9)" ∷
    codes "   SEED := SEED NEQV (SEED<<8)" ∷
    codes "   PUTPRODUCT(P, SEED, N)" ∷
    codes "   RESULTIS P!0 + 1 $)" ∷
    codes "" ∷
    codes "AND RANDOMISE(N) BE SEED := N=0 -> 1, N" ∷
    codes "" ∷
    codes "// ---- The end" ∷
    codes "" ∷
    codes "AND STOP(CODE) BE FINISH" ∷
    codes "" ∷
    codes "// ---- What a program can't have here: a user who interrupts it, a clock, a map of the store" ∷
    codes "" ∷
    codes "AND TESTFLAGS(FLAGS) = FALSE" ∷
    codes "" ∷
    codes "AND TIME() = 0" ∷
    codes "" ∷
    codes "AND MAPSTORE() BE RETURN" ∷ [])

abbrev pub header_file : File
header_file = record { name = codes "EXTHDR"; text = header }

abbrev pub source_file : File
source_file = record { name = codes "EXTLIB"; text = source }
